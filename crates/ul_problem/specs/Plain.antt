-- A problem as plain data: the places of the project's nodes, and what is known of each node. A node is named by its place in the
-- list, a version by its place in the node's versions, and a set of versions is its list of flags.
use Rattle.std.specs.Prelude.{ℕ, List, [], length, Option, Some, None, slice_get, get_or, Bool}
use Rattle.ul_problem.specs.declared.problem.Need.{Need}
use Rattle.ul_problem.specs.declared.problem.NodeFacts.{NodeFacts}

-- a problem
pub record Plain : Type 0 where
  pub roots : List ℕ
  pub nodes : List NodeFacts

-- what is known of a node, where the problem has it
abbrev pub node_at : Plain → ℕ → Option NodeFacts
node_at p n = slice_get p.nodes n

-- the number of versions of what is known of a node
abbrev pub size_in : Option NodeFacts → ℕ
size_in None = 0
size_in (Some f) = length f.versions

-- how many versions a node has, and none where the problem hasn't the node
abbrev pub size_of : Plain → ℕ → ℕ
size_of p n = size_in (node_at p n)

-- the base of what is known of a node
abbrev pub base_in : Option NodeFacts → Option ℕ
base_in None = None
base_in (Some f) = f.base

-- the place of a node's base, where the node has an extra
abbrev pub base_of : Plain → ℕ → Option ℕ
base_of p n = base_in (node_at p n)

-- the versions of what is known of a node that aren't fit
abbrev pub barred_in : Option NodeFacts → List Bool
barred_in None = []
barred_in (Some f) = f.barred

-- the versions of a node that aren't fit throughout the region
abbrev pub barred_of : Plain → ℕ → List Bool
barred_of p n = barred_in (node_at p n)

-- the needs of a version of what is known of a node
abbrev pub needs_in : Option NodeFacts → ℕ → List Need
needs_in None v = []
needs_in (Some f) v = get_or f.needs v []

-- the needs of a version
abbrev pub needs_of : Plain → ℕ → ℕ → List Need
needs_of p n v = needs_in (node_at p n) v

-- the order of preference of what is known of a node
abbrev pub order_in : Option NodeFacts → List ℕ
order_in None = []
order_in (Some f) = f.order

-- the order of preference of a node's versions
abbrev pub order_of : Plain → ℕ → List ℕ
order_of p n = order_in (node_at p n)
