-- Places of nodes among those of all regions, and what is looked up by them.
use Rattle.std.specs.Prelude.{◌≡◌, ℕ, List, All, Contains, Option, Some, None, slice_get}
use Rattle.std.specs.HashMap.{HashMap, get}
use Rattle.ul_base.specs.declared.node.Node.{Node}
use Rattle.ul_base.specs.Nodes.{node_eq}
use Rattle.ul_requirement.specs.Truth.{base}
use Rattle.ul_prepared.specs.Gathered.{IsNamed}
use Rattle.ul_prepared.specs.declared.prepared.NameFacts.{NameFacts}
use Rattle.ul_prepared.specs.declared.prepared.Planned.{Planned}

-- the node stands at the place
abbrev pub StandsAt : List Planned → Node → ℕ → Type 0
StandsAt nodes n k = (p : Planned) × (slice_get nodes k ≡ Some p) × (p.node ≡ n)

-- the node is one of the nodes
abbrev pub IsAmong : List Planned → Node → Type 0
IsAmong nodes n = (k : ℕ) × StandsAt nodes n k

-- the node is one of the list
abbrev pub IsOneOf : List Node → Planned → Type 0
IsOneOf ns p = Contains ns p.node

-- the nodes are those of the list
pub record AreNodesOf (ns : List Node) (nodes : List Planned) : Type 0 where
  pub whole : (n : Node) → Contains ns n → IsAmong nodes n
  pub only : All (IsOneOf ns) nodes

-- the map has this place of the node
abbrev pub IsFoundAt : {S : Type 0} → HashMap Node ℕ S → Node → ℕ → Type 0
IsFoundAt index n k = get node_eq index n ≡ Some k

-- the map has a place of the node
abbrev pub IsFound : {S : Type 0} → HashMap Node ℕ S → Node → Type 0
IsFound index n = (k : ℕ) × IsFoundAt index n k

-- the map has a place of each of the nodes, and places of theirs alone
pub record IsIndexOf {S : Type 0} (nodes : List Planned) (index : HashMap Node ℕ S) : Type 0 where
  pub whole : (n : Node) → IsAmong nodes n → IsFound index n
  pub right : (n : Node) (k : ℕ) → IsFoundAt index n k → StandsAt nodes n k

-- nodes whose names are known, and their places
pub record IsNodeIndex {S : Type 0} (names : List NameFacts) (nodes : List Planned) (index : HashMap Node ℕ S) : Type 0 where
  pub named : All (IsNamed names) nodes
  pub places : IsIndexOf nodes index

-- the place that the map has of the node's base, where the node has an extra
abbrev pub IsBasePlace : {S : Type 0} → HashMap Node ℕ S → Node → Option ℕ → Type 0
IsBasePlace index n None = n.extra ≡ None
IsBasePlace index n (Some b) = (n.extra ≡ None → ⊥) × IsFoundAt index (base n.name) b

-- the base of a node's name is one of the nodes, and all nodes of the name have one place of it
pub record IsBased (nodes : List Planned) (p : Planned) : Type 0 where
  pub base : IsAmong nodes (base p.node.name)
  pub alike : (k : ℕ) (q : Planned) → slice_get nodes k ≡ Some q → q.node.name ≡ p.node.name → q.name ≡ p.name
