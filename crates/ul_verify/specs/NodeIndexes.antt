-- Nodes with the places at which they stand.
use Rattle.std.specs.Prelude.{◌≡◌, ◌↔◌, ◌<◌, ℕ, List, [], ◌∷◌, Bool, Contains, Option, Some, map, option_map, slice_get}
use Rattle.std.specs.Borrow.{Bor}
use Rattle.std.specs.List.Sorted.{IsSortedBy}
use Rattle.std.specs.Ordering.{is_lt}
use Rattle.ul_base.specs.Nodes.{node_cmp}
use Rattle.ul_base.specs.declared.node.Node.{Node}
use Rattle.ul_lock.specs.declared.parts.Edge.{Edge}
use Rattle.ul_verify.specs.declared.node_index.Entry.{Entry}
use Rattle.ul_verify.specs.declared.node_index.NodeIndex.{NodeIndex}

-- the node of a name and an extra, if there is one
abbrev pub node_of : List ℕ → Option (Bor (List ℕ)) → Node
node_of n x = record { name = n; extra = option_map (λ (y : Bor (List ℕ)). y.now) x }

-- the node of an entry
abbrev pub entry_node : Entry → Node
entry_node e = node_of e.name.now e.extra

-- an entry as its node and its place
abbrev pub view_of : Entry → Node × ℕ
view_of e = (entry_node e, e.place)

-- the target of an edge, as a list
abbrev pub edge_targets : Edge → List Node
edge_targets e = e.target ∷ []

-- nodes that stand at a place
abbrev pub entries_at : ℕ → List Node → List (Node × ℕ)
entries_at k ns = map (λ (n : Node). (n, k)) ns

-- the node is one of the list at the place
abbrev pub StandsAt : List (List Node) → Node → ℕ → Type 0
StandsAt nss n k = (ns : List Node) × (slice_get nss k ≡ Some ns) × Contains ns n

-- the node of one entry comes before that of the other
abbrev pub is_before : Entry → Entry → Bool
is_before a b = is_lt (node_cmp (entry_node a) (entry_node b))

-- it has each node of each list with the list's place, and nothing else, and its entries are in the order of the nodes
pub record IsIndexOf (nss : List (List Node)) (i : NodeIndex) : Type 0 where
  pub each : (n : Node) (k : ℕ) → Contains (map view_of i.entries.items) (n, k) ↔ StandsAt nss n k
  pub sorted : IsSortedBy is_before i.entries.items

-- these are the entries of the node
abbrev pub IsRunOf : Node → List Entry → List Entry → Type 0
IsRunOf n all run = (e : Entry) → Contains run e ↔ (Contains all e × (entry_node e ≡ n))

-- ---- in loops

-- the entries are those of the lists before a place
abbrev pub HasEachTo : List (List Node) → ℕ → List Entry → Type 0
HasEachTo nss i es = (n : Node) (k : ℕ) → Contains (map view_of es) (n, k) ↔ ((k < i) × StandsAt nss n k)
