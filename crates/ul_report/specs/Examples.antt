-- Worked examples of refusals and of steps.
use Rattle.std.specs.Prelude.{◌≡◌, ℕ, List, [], ◌∷◌, ◌++◌, Some, None, codes, Bool, true, false}
use Rattle.ul_base.specs.declared.node.Node.{Node}
use Rattle.ul_version.specs.Fields.{Fields, plain}
use Rattle.ul_comparison.specs.Atoms.{atom_fields}
use Rattle.ul_comparison.specs.declared.variable.AtomKind.TheVariants.{Contains}
use Rattle.ul_comparison.specs.declared.variable.Variable.TheVariants.{SysPlatform, PlatformVersion}
use Rattle.ul_nodes.specs.Levels.{text_level, atom_level}
use Rattle.ul_nodes.specs.Plain.{Plain, truth, node, done, branch}
use Rattle.ul_problem.specs.declared.term.Term.TheVariants.{In, NotIn}
use Rattle.ul_problem.specs.declared.step.Step.{Step}
use Rattle.ul_problem.specs.declared.step.Step.TheVariants.{Need, Python, Base, Cut}
use Rattle.ul_problem.specs.declared.problem.NodeFacts.{NodeFacts}
use Rattle.ul_problem.specs.Plain as Problems
use Rattle.ul_report.specs.Naming.{named_steps}
use Rattle.ul_report.specs.Texts.{line_end, refusal_text, steps_text}

-- a line
abbrev pub line : List ℕ → List ℕ
line text = text ++ line_end

-- `sys_platform == 'win32'`
abbrev pub windows : Plain
windows = node (text_level SysPlatform) (truth false) (branch (codes "win32") (truth true) done)

-- `"it's" in platform_version`
abbrev pub holding : Plain
holding =
    node (atom_level (atom_fields PlatformVersion Contains (codes "it's"))) (truth false)
    (branch (1 ∷ []) (truth true) done)

-- the first comparisons of a world of an interpreter 0.0.0, whose `sys_platform` is this
abbrev pub world_front : List ℕ → List ℕ
world_front platform =
    codes "world: python_full_version == '0.0.0' and os_name == '' and sys_platform == '" ++ (platform
    ++ (codes "' and platform_machine == '' and platform_python_implementation == ''"
    ++ codes " and platform_release == '' and platform_system == ''"))

-- the last text of a world
abbrev pub world_end : List ℕ
world_end = codes " and platform_version == '' and implementation_name == ''"

-- a fork of a platform, the whole region, and a region of an opaque comparison
pub record RefusalExamples : Type 0 where
  pub platform : refusal_text (false ∷ []) windows
      ≡ line (codes "no selection serves this fork") ++ (line (codes "fork: 0")
      ++ (line (codes "region: sys_platform == 'win32'")
      ++ line (world_front (codes "win32") ++ world_end)))
  pub whole : refusal_text [] (truth true)
      ≡ line (codes "no selection serves this fork") ++ (line (codes "fork: -") ++ (line (codes "region: *")
      ++ line (world_front [] ++ world_end)))
  pub opaque_comparison : refusal_text (true ∷ false ∷ []) holding
      ≡ line (codes "no selection serves this fork") ++ (line (codes "fork: 10")
      ++ (line (codes "region: \"it's\" in platform_version")
      ++ line (world_front [] ++ (world_end ++ codes " and \"it's\" in platform_version"))))

-- a node with these versions, which needs nothing
abbrev pub facts : Node → List Fields → NodeFacts
facts n versions = record { node = n; base = None; versions = versions; order = []; barred = []; needs = [] }

-- the base of a name
abbrev pub base_node : List ℕ → Node
base_node name = record { name = name; extra = None }

-- the versions 1, 2 and 3
abbrev pub three_versions : List Fields
three_versions = plain (1 ∷ []) ∷ plain (2 ∷ []) ∷ plain (3 ∷ []) ∷ []

-- demo 0.1, p and its extra x with three versions each, and z without versions
abbrev pub example_problem : Problems.Plain
example_problem =
    record {
      roots = 0 ∷ [];
      nodes = facts (base_node (codes "demo")) (plain (0 ∷ 1 ∷ []) ∷ [])
          ∷ facts (base_node (codes "p")) three_versions
          ∷ facts (record { name = codes "p"; extra = Some (codes "x") }) three_versions
          ∷ facts (base_node (codes "z")) [] ∷ [];
    }

-- the second and the third
abbrev pub last_two : List Bool
last_two = false ∷ true ∷ true ∷ []

-- the text of steps of this problem
abbrev pub text_of : List Step → List ℕ
text_of ss = steps_text (named_steps example_problem ss)

-- a line for each step, with its number, its nodes and its versions; what always holds is left out
pub record StepExamples : Type 0 where
  pub nothing : text_of [] ≡ []
  pub need : text_of (Need 0 (true ∷ []) 1 last_two ∷ []) ≡ line (codes "1 need demo {0.1} p {2,3}")
  pub no_versions : text_of (Need 1 last_two 3 [] ∷ []) ≡ line (codes "1 need p {2,3} z {}")
  pub python : text_of (Python 1 (true ∷ false ∷ true ∷ []) ∷ []) ≡ line (codes "1 python p {1,3}")
  pub base : text_of (Base 2 last_two ∷ []) ≡ line (codes "1 base p[x] {2,3}")
  pub terms : text_of (Cut 1 2 1 (In 0 (true ∷ []) ∷ NotIn 2 last_two ∷ []) ∷ [])
      ≡ line (codes "1 cut 1 2 on p: demo {0.1}, not p[x] {2,3}")
  pub left_out : text_of (Cut 1 2 1 (NotIn 3 [] ∷ In 0 (true ∷ []) ∷ []) ∷ [])
      ≡ line (codes "1 cut 1 2 on p: demo {0.1}")
  pub no_terms : text_of (Cut 10 2 2 [] ∷ []) ≡ line (codes "1 cut 10 2 on p[x]:")
  pub three : text_of (Need 0 (true ∷ []) 1 last_two ∷ Need 1 last_two 3 [] ∷ Cut 1 2 1 (In 0 (true ∷ []) ∷ []) ∷ [])
      ≡ line (codes "1 need demo {0.1} p {2,3}") ++ (line (codes "2 need p {2,3} z {}")
      ++ line (codes "3 cut 1 2 on p: demo {0.1}"))
