-- The steps that a problem gives.
use Rattle.std.specs.Prelude.{ℕ, zero, suc, List, [], ◌∷◌, ◌++◌, Bool, cond, Option, Some, None, slice_get, get_or, length}
use Rattle.ul_ranges.specs.Flags.{is_blank}
use Rattle.ul_problem.specs.Plain.{Plain, node_at}
use Rattle.ul_problem.specs.declared.problem.Need.{Need}
use Rattle.ul_problem.specs.declared.problem.NodeFacts.{NodeFacts}
use Rattle.ul_problem.specs.declared.step.Step.{Step}
use Rattle.ul_problem.specs.declared.step.Step.TheVariants.{Need as NeedStep, Python, Base}
use Rattle.ul_trail.specs.Facts.{one_of}

-- a step for each need of a version
abbrev pub need_steps : ℕ → List Bool → List Need → List Step
need_steps n s [] = []
need_steps n s (need ∷ needs) = NeedStep n s need.node need.permitted ∷ need_steps n s needs

-- a step where the node has an extra
abbrev pub base_steps : ℕ → List Bool → Option ℕ → List Step
base_steps n s None = []
base_steps n s (Some b) = Base n s ∷ []

-- a step where versions are barred
abbrev pub python_steps : ℕ → List Bool → List Step
python_steps n s = cond (is_blank s) [] (Python n s ∷ [])

-- the steps of a version
abbrev pub version_steps : NodeFacts → ℕ → ℕ → List Step
version_steps f n v = base_steps n (one_of (length f.versions) v) f.base ++ need_steps n (one_of (length f.versions) v) (get_or f.needs v [])

-- the steps of a version, where the problem has the node
abbrev pub version_steps_in : Option NodeFacts → ℕ → ℕ → List Step
version_steps_in None n v = []
version_steps_in (Some f) n v = version_steps f n v

-- the steps that a version gives
abbrev pub steps_for : Plain → ℕ → ℕ → List Step
steps_for p n v = version_steps_in (node_at p n) n v

-- the steps of a node that don't hang on which of its versions is picked
abbrev pub node_steps : NodeFacts → ℕ → List Step
node_steps f n = python_steps n f.barred

-- the steps of a node, where the problem has it
abbrev pub steps_at : Option NodeFacts → ℕ → List Step
steps_at None n = []
steps_at (Some f) n = node_steps f n

-- the steps of the first k nodes
abbrev pub first_steps : List NodeFacts → ℕ → List Step
first_steps nodes zero = []
first_steps nodes (suc k) = first_steps nodes k ++ steps_at (slice_get nodes k) k
