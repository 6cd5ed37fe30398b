-- The text of a refused fork, and of the steps of a derivation: the bytes of each line.
use Rattle.std.specs.Prelude.{ℕ, ◌+◌, List, [], ◌∷◌, ◌++◌, map, flat_map, codes, Bool, true, false, Option, Some, None}
use Rattle.std.specs.Fmt.{decimal}
use Rattle.ul_base.specs.declared.node.Node.{Node}
use Rattle.ul_version.specs.Fields.{Fields}
use Rattle.ul_version.specs.Texts.{version_text}
use Rattle.ul_comparison.specs.Atoms.{AtomFields}
use Rattle.ul_comparison.specs.Worlds.{WorldFields, text_at}
use Rattle.ul_comparison.specs.Printed.{comparison_text, text_is, atom_is}
use Rattle.ul_comparison.specs.declared.variable.Variable.{Variable}
use Rattle.ul_comparison.specs.declared.variable.Variable.TheVariants.{OsName, SysPlatform, PlatformMachine, PlatformPythonImplementation, PlatformRelease, PlatformSystem, PlatformVersion, ImplementationName}
use Rattle.ul_nodes.specs.Plain.{Plain}
use Rattle.ul_tree.specs.Sample.{sample_of}
use Rattle.ul_marker_text.specs.MarkerText.{marker_text}
use Rattle.ul_report.specs.declared.text_steps.TextTerm.{TextTerm}
use Rattle.ul_report.specs.declared.text_steps.TextTerm.TheVariants.{In, NotIn}
use Rattle.ul_report.specs.declared.text_steps.TextStep.{TextStep}
use Rattle.ul_report.specs.declared.text_steps.TextStep.TheVariants.{Need, Python, Base, Cut}

-- ---- the refused fork

-- the end of a line
abbrev pub line_end : List ℕ
line_end = 10 ∷ []

-- a digit of a path: 0 or 1
abbrev pub digit : Bool → ℕ
digit false = 48
digit true = 49

-- the digits of a path, or `-` for the whole region
abbrev pub path_text : List Bool → List ℕ
path_text [] = codes "-"
path_text (b ∷ bs) = map digit (b ∷ bs)

-- the text variables in the order of a world's texts
abbrev pub text_variables : List Variable
text_variables =
    OsName ∷ SysPlatform ∷ PlatformMachine ∷ PlatformPythonImplementation ∷ PlatformRelease ∷ PlatformSystem
    ∷ PlatformVersion ∷ ImplementationName ∷ []

-- the text that a world has of a variable, behind other comparisons
unfoldable pub text_part : WorldFields → Variable → List ℕ
text_part w v = codes " and " ++ comparison_text (text_is v (text_at w v) true)

-- an opaque comparison that holds, behind others
unfoldable pub truth_part : AtomFields → List ℕ
truth_part a = codes " and " ++ comparison_text (atom_is a true)

-- the interpreter of a world: its three numbers joined by points
unfoldable pub python_part : WorldFields → List ℕ
python_part w =
    codes "python_full_version == '" ++ (decimal w.major ++ (codes "." ++ (decimal w.minor ++ (codes "."
    ++ (decimal w.patch ++ codes "'")))))

-- a world as comparisons joined by ` and `: its interpreter, the text of each text variable, and each opaque comparison
-- that holds
unfoldable pub world_text : WorldFields → List ℕ
world_text w = python_part w ++ (flat_map (text_part w) text_variables ++ flat_map truth_part w.truths)

-- the first line of a refusal
abbrev pub first_line : List ℕ
first_line = codes "no selection serves this fork" ++ line_end

-- the lines of a path, the text of a region and a world
unfoldable pub lines_text : List Bool → List ℕ → WorldFields → List ℕ
lines_text path region world =
    first_line ++ (codes "fork: " ++ (path_text path ++ (line_end
    ++ (codes "region: " ++ (region ++ (line_end
    ++ (codes "world: " ++ (world_text world ++ line_end))))))))

-- the lines of a refused fork: its path, its region, and the sample of the region
abbrev pub refusal_text : List Bool → Plain → List ℕ
refusal_text path region = lines_text path (marker_text region) (sample_of region)

-- ---- steps

-- an extra in brackets, where there is one
abbrev pub extra_text : Option (List ℕ) → List ℕ
extra_text None = []
extra_text (Some extra) = codes "[" ++ (extra ++ codes "]")

-- `name` or `name[extra]`
unfoldable pub node_text : Node → List ℕ
node_text node = node.name ++ extra_text node.extra

-- what stands in front of a version of a set, which is the first or a later one
abbrev pub comma : Bool → List ℕ
comma true = []
comma false = codes ","

-- versions joined by `,`
abbrev pub versions_text : Bool → List Fields → List ℕ
versions_text first [] = []
versions_text first (v ∷ vs) = comma first ++ (version_text v ++ versions_text false vs)

-- a node and a set of its versions in braces
unfoldable pub placed_text : Node → List Fields → List ℕ
placed_text node versions = node_text node ++ (codes " {" ++ (versions_text true versions ++ codes "}"))

-- a term
unfoldable pub term_text : TextTerm → List ℕ
term_text (In node versions) = placed_text node versions
term_text (NotIn node versions) = codes "not " ++ placed_text node versions

-- what stands in front of a term of a cut, which is the first or a later one
abbrev pub separator : Bool → List ℕ
separator true = codes " "
separator false = codes ", "

-- the terms of a cut, joined by `, `
abbrev pub terms_text : Bool → List TextTerm → List ℕ
terms_text first [] = []
terms_text first (t ∷ ts) = separator first ++ (term_text t ++ terms_text false ts)

-- what a cut says in front of its terms
abbrev pub cut_text : ℕ → ℕ → Node → List ℕ
cut_text left right node =
    codes " cut " ++ (decimal left ++ (codes " " ++ (decimal right ++ (codes " on " ++ (node_text node ++ codes ":")))))

-- what a line says behind its number
unfoldable pub step_text : TextStep → List ℕ
step_text (Need node versions target permitted) =
    codes " need " ++ (placed_text node versions ++ (codes " " ++ placed_text target permitted))
step_text (Python node versions) = codes " python " ++ placed_text node versions
step_text (Base node versions) = codes " base " ++ placed_text node versions
step_text (Cut left right node terms) = cut_text left right node ++ terms_text true terms

-- the line of a step with its number
unfoldable pub step_line : ℕ → TextStep → List ℕ
step_line number step = decimal number ++ (step_text step ++ line_end)

-- a line for each step, of which the first has this number
abbrev pub lines_from : ℕ → List TextStep → List ℕ
lines_from number [] = []
lines_from number (s ∷ ss) = step_line number s ++ lines_from (number + 1) ss

-- the text of steps: a line for each, numbered from 1
abbrev pub steps_text : List TextStep → List ℕ
steps_text steps = lines_from 1 steps
