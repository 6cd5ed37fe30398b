-- What a lock gives in a world.
use Rattle.std.specs.Prelude.{◌≡◌, ◌⊎◌, ◌↔◌, ℕ, List, [], Contains, Bool, true, Option, Some, None}
use Rattle.ul_base.specs.Reached.{Reached}
use Rattle.ul_base.specs.declared.node.Node.{Node}
use Rattle.ul_version.specs.Fields.{Fields}
use Rattle.ul_comparison.specs.Worlds.{WorldFields}
use Rattle.ul_nodes.specs.Plain.{Plain, truth, node, Branches, done, branch}
use Rattle.ul_tree.specs.Values.{tree_holds, value_of}
use Rattle.ul_lock.specs.declared.parts.Edge.{Edge}
use Rattle.ul_lock.specs.declared.parts.Extra.{Extra}
use Rattle.ul_lock.specs.declared.parts.Locked.{Locked}
use Rattle.ul_lock.specs.declared.parts.Lock.{Lock}

-- a node at a version
abbrev pub Pick : Type 0
Pick = Node × Fields

-- the edge is one of the package's base, or of one of its extras
abbrev pub IsEdgeOf : Locked → Option (List ℕ) → Edge → Type 0
IsEdgeOf b None e = Contains b.edges e
IsEdgeOf b (Some x) e = (y : Extra) × Contains b.extras y × (y.name ≡ x) × Contains y.edges e

-- the lock has the package
pub record HasPackage (l : Lock) (name : List ℕ) (version : Fields) : Type 0 where
  pub block : Locked
  pub listed : Contains l.packages block
  pub named : block.name ≡ name
  pub at : block.version ≡ version

-- the edge goes out from the node at its version
pub record HasEdge (l : Lock) (p : Pick) (e : Edge) : Type 0 where
  pub from : HasPackage l p.0.name p.1
  pub edge : IsEdgeOf from.block p.0.extra e

-- the root's node, or its node of one of the extras
abbrev pub IsRootNode : Lock → List (List ℕ) → Node → Type 0
IsRootNode l xs n = (n.name ≡ l.root) × ((n.extra ≡ None) ⊎ ((x : List ℕ) × Contains xs x × (n.extra ≡ Some x)))

-- what a lock gives at once: the root's nodes, at the root's version
abbrev pub WalkBegins : Lock → List (List ℕ) → Pick → Type 0
WalkBegins l xs p = HasPackage l l.root p.1 × IsRootNode l xs p.0

-- an edge holds in a world; its marker asks for no extra
abbrev pub edge_holds : WorldFields → Edge → Bool
edge_holds w e = tree_holds e.marker w []

-- an edge that holds leads from the one to the other
abbrev pub WalkLeads : Lock → WorldFields → Pick → Pick → Type 0
WalkLeads l w p q = (e : Edge) × HasEdge l p e × (edge_holds w e ≡ true) × (e.target ≡ q.0) × (e.version ≡ q.1)

-- what the lock gives in a world, with extras of its root: the least set that has the root's nodes, and with a node
-- the target of each of its edges that hold
abbrev pub Walk : Lock → WorldFields → List (List ℕ) → Pick → Type 0
Walk l w xs p = Reached (WalkBegins l xs) (WalkLeads l w) p

-- ---- laws

-- it is such a set, and each such set has it
pub record WalkIsLeast : Type 0 where
  pub begins : (l : Lock) (w : WorldFields) (xs : List (List ℕ)) (p : Pick) → WalkBegins l xs p → Walk l w xs p
  pub leads : (l : Lock) (w : WorldFields) (xs : List (List ℕ)) (p q : Pick)
      → Walk l w xs p → WalkLeads l w p q → Walk l w xs q
  pub least : (l : Lock) (w : WorldFields) (xs : List (List ℕ)) (has : Pick → Bool)
      → ((p : Pick) → WalkBegins l xs p → has p ≡ true)
      → ((p q : Pick) → has p ≡ true → WalkLeads l w p q → has q ≡ true)
      → (p : Pick) → Walk l w xs p → has p ≡ true

abbrev mutual
  -- at each level of the tree the worlds have one value: the same interpreter, the same text of a variable, the same
  -- truth of an opaque comparison
  pub AgreeAt : WorldFields → WorldFields → Plain → Type 0
  AgreeAt w v (truth b) = Unit {0}
  AgreeAt w v (node level rest branches) =
      (value_of w [] level ≡ value_of v [] level) × AgreeAt w v rest × AgreeAtAll w v branches

  pub AgreeAtAll : WorldFields → WorldFields → Branches → Type 0
  AgreeAtAll w v done = Unit {0}
  AgreeAtAll w v (branch key part rest) = AgreeAt w v part × AgreeAtAll w v rest

-- worlds agree on all comparisons of the lock's edges
abbrev pub AgreeOnLock : Lock → WorldFields → WorldFields → Type 0
AgreeOnLock l w v = (p : Pick) (e : Edge) → HasEdge l p e → AgreeAt w v e.marker

-- such worlds have one walk
abbrev pub WalksAgree : Type 0
WalksAgree = (l : Lock) (w v : WorldFields) (xs : List (List ℕ))
    → AgreeOnLock l w v → (p : Pick) → Walk l w xs p ↔ Walk l v xs p
