-- The place of a node among those of a problem.
use Rattle.std.specs.Prelude.{◌≡◌, ℕ, List, Option, Some, None, slice_get}
use Rattle.ul_base.specs.declared.node.Node.{Node}
use Rattle.ul_problem.specs.declared.problem.NodeFacts.{NodeFacts}

-- at the place stands what is known of the node
abbrev pub StandsAt : List NodeFacts → Node → ℕ → Type 0
StandsAt nodes node k = (f : NodeFacts) × (slice_get nodes k ≡ Some f) × (f.node ≡ node)

-- the place of the node, and none where it stands at no place
abbrev pub IsFound : List NodeFacts → Node → Option ℕ → Type 0
IsFound nodes node None = (k : ℕ) → StandsAt nodes node k → ⊥
IsFound nodes node (Some k) = StandsAt nodes node k
