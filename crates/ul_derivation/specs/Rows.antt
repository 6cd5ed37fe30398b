-- A worked example. demo 0.1 needs q with {1}, the versions 1 and 2 of q need z with {}, and z has no versions: so nothing serves.
use Rattle.std.specs.Prelude.{ℕ, List, [], ◌∷◌, true, false, None, codes}
use Rattle.ul_base.specs.declared.node.Node.{Node}
use Rattle.ul_version.specs.Fields.{plain}
use Rattle.ul_problem.specs.Plain.{Plain}
use Rattle.ul_problem.specs.Steps.{Accepts}
use Rattle.ul_problem.specs.declared.problem.NodeFacts.{NodeFacts}
use Rattle.ul_problem.specs.declared.term.Term.TheVariants.{In}
use Rattle.ul_problem.specs.declared.step.Step.{Step}
use Rattle.ul_problem.specs.declared.step.Step.TheVariants.{Need as NeedStep, Cut}
use Rattle.ul_derivation.specs.Faults.{IsFirstBad}

-- the base of a name
abbrev pub base_node : List ℕ → Node
base_node name = record { name = name; extra = None }

-- one version, which needs q {1}
abbrev pub demo : NodeFacts
demo = record { node = base_node (codes "demo"); base = None; versions = plain (0 ∷ 1 ∷ []) ∷ []; order = 0 ∷ []; barred = false ∷ []; needs = (record { node = 1; permitted = true ∷ false ∷ [] } ∷ []) ∷ [] }

-- two versions, each of which needs z {}
abbrev pub q : NodeFacts
q = record { node = base_node (codes "q"); base = None; versions = plain (1 ∷ []) ∷ plain (2 ∷ []) ∷ []; order = 1 ∷ 0 ∷ []; barred = false ∷ false ∷ []; needs = (record { node = 2; permitted = [] } ∷ []) ∷ (record { node = 2; permitted = [] } ∷ []) ∷ [] }

-- no versions
abbrev pub z : NodeFacts
z = record { node = base_node (codes "z"); base = None; versions = []; order = []; barred = []; needs = [] }

-- the problem of the three, with demo as its root
abbrev pub clash : Plain
clash = record { roots = 0 ∷ []; nodes = demo ∷ q ∷ z ∷ [] }

-- need demo {0.1} q {1}
abbrev pub first_step : Step
first_step = NeedStep 0 (true ∷ []) 1 (true ∷ false ∷ [])

-- need q {1} z {}
abbrev pub second_step : Step
second_step = NeedStep 1 (true ∷ false ∷ []) 2 []

-- the derivation with the cut on q, which says demo {0.1}, is accepted
abbrev pub ClashAccepted : Type 0
ClashAccepted = Accepts clash (first_step ∷ second_step ∷ Cut 1 2 1 (In 0 (true ∷ []) ∷ []) ∷ [])

-- without the last term of its cut its first bad step is 3
abbrev pub ClashShort : Type 0
ClashShort = IsFirstBad clash (first_step ∷ second_step ∷ Cut 1 2 1 [] ∷ []) 3

-- without the cut its first bad step is 3
abbrev pub ClashUncut : Type 0
ClashUncut = IsFirstBad clash (first_step ∷ second_step ∷ []) 3
