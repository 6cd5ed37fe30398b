-- What is true of each problem.
use Rattle.std.specs.Prelude.{◌≡◌, ℕ, ◌<◌, ◌⊎◌, List, [], ◌∷◌, ◌++◌, Option, Some, None, length, slice_get, All, Contains}
use Rattle.std.specs.declared.cmp.Ordering.TheVariants.{Less}
use Rattle.ul_base.specs.Nodes.{node_cmp}
use Rattle.ul_version.specs.Fields.{Fields}
use Rattle.ul_version.specs.Order.{version_cmp}
use Rattle.ul_problem.specs.Plain.{Plain, size_in, base_in}
use Rattle.ul_problem.specs.declared.problem.Need.{Need}
use Rattle.ul_problem.specs.declared.problem.NodeFacts.{NodeFacts}

-- each element is related to the next
abbrev pub IncreasesFrom : {A : Type 0} → (A → A → Type 0) → A → List A → Type 0
IncreasesFrom {A} R x [] = Unit {0}
IncreasesFrom {A} R x (y ∷ ys) = R x y × IncreasesFrom R y ys

-- each element of a list is related to the next
abbrev pub Increases : {A : Type 0} → (A → A → Type 0) → List A → Type 0
Increases {A} R [] = Unit {0}
Increases {A} R (x ∷ xs) = IncreasesFrom R x xs

-- each element is such
abbrev pub AllAre : {A : Type 0} → (A → Type 0) → List A → Type 0
AllAre {A} P [] = Unit {0}
AllAre {A} P (x ∷ xs) = P x × AllAre P xs

-- one node comes before another, one version before another, one place before another
abbrev pub NodeBefore : NodeFacts → NodeFacts → Type 0
NodeBefore f g = node_cmp f.node g.node ≡ Less

-- one version comes before another, in the order of PEP 440
abbrev pub VersionBefore : Fields → Fields → Type 0
VersionBefore v w = version_cmp v w ≡ Less

-- one place comes before another
abbrev pub PlaceBefore : ℕ → ℕ → Type 0
PlaceBefore m n = m < n

-- the facts are those of a node's base, with the same versions: its name, without an extra
abbrev pub IsBaseOf : NodeFacts → NodeFacts → Type 0
IsBaseOf g f = (g.node.name ≡ f.node.name) × (g.node.extra ≡ None) × (g.versions ≡ f.versions)

-- there are such facts
abbrev pub IsBaseIn : Option NodeFacts → NodeFacts → Type 0
IsBaseIn None f = ⊥
IsBaseIn (Some g) f = IsBaseOf g f

-- `base` is the place of the base where the node has an extra, and none elsewhere
abbrev pub HasBase : List NodeFacts → NodeFacts → Option (List ℕ) → Option ℕ → Type 0
HasBase nodes f None None = Unit {0}
HasBase nodes f None (Some b) = ⊥
HasBase nodes f (Some x) None = ⊥
HasBase nodes f (Some x) (Some b) = IsBaseIn (slice_get nodes b) f

-- the order of preference has each version once: as many places as versions, each the place of a version, and each version at one
abbrev pub IsOrderOf : ℕ → List ℕ → Type 0
IsOrderOf size order = (length order ≡ size) × All (λ v. v < size) order × ((v : ℕ) → v < size → Contains order v)

-- some need of the list has the target
abbrev pub HasTarget : ℕ → List Need → Type 0
HasTarget b [] = ⊥
HasTarget b (need ∷ needs) = (need.node ≡ b) ⊎ HasTarget b needs

-- where a need's target has a base, a need of the base stands among the earlier ones
abbrev pub IsAfterBase : List Need → Option ℕ → Type 0
IsAfterBase earlier None = Unit {0}
IsAfterBase earlier (Some b) = HasTarget b earlier

-- a need after earlier ones: its target is a node of the problem, its permitted versions are a set of the target's size, and where
-- the target has an extra a need of the target's base stands before it
abbrev pub IsNeedAfter : List NodeFacts → List Need → Need → Type 0
IsNeedAfter nodes earlier need =
    (need.node < length nodes) × (length need.permitted ≡ size_in (slice_get nodes need.node)) × IsAfterBase earlier (base_in (slice_get nodes need.node))

-- each need is right after those before it
abbrev pub AreNeedsAfter : List NodeFacts → List Need → List Need → Type 0
AreNeedsAfter nodes earlier [] = Unit {0}
AreNeedsAfter nodes earlier (need ∷ needs) = IsNeedAfter nodes earlier need × AreNeedsAfter nodes (earlier ++ need ∷ []) needs

-- the needs of a version
abbrev pub AreNeeds : List NodeFacts → List Need → Type 0
AreNeeds nodes needs = AreNeedsAfter nodes [] needs

-- what is true of each node
pub record IsNodeOf (nodes : List NodeFacts) (f : NodeFacts) : Type 0 where
  pub increasing : Increases VersionBefore f.versions
  pub has_base : HasBase nodes f f.node.extra f.base
  pub is_order : IsOrderOf (length f.versions) f.order
  pub barred_size : length f.barred ≡ length f.versions
  pub rows : length f.needs ≡ length f.versions
  pub needs : AllAre (AreNeeds nodes) f.needs

-- the node has exactly one version
abbrev pub IsSingle : List NodeFacts → ℕ → Type 0
IsSingle nodes n = size_in (slice_get nodes n) ≡ 1

-- the node is an extra of a base
abbrev pub IsExtraOf : List NodeFacts → ℕ → ℕ → Type 0
IsExtraOf nodes r n = base_in (slice_get nodes n) ≡ Some r

-- the roots are a base, and then extras of it
abbrev pub AreOneBase : List NodeFacts → List ℕ → Type 0
AreOneBase nodes [] = ⊥
AreOneBase nodes (r ∷ rs) = (base_in (slice_get nodes r) ≡ None) × AllAre (IsExtraOf nodes r) rs

-- What is true of each problem: the nodes strictly increase, each place is in range and each set has its node's size, an order has
-- each version once, an extra has its base and its base's versions, a need of an extra comes after one of its base, and the roots
-- strictly increase, are a base and extras of it, and have one version each.
pub record IsWellFormed (p : Plain) : Type 0 where
  pub increasing : Increases NodeBefore p.nodes
  pub nodes : AllAre (IsNodeOf p.nodes) p.nodes
  pub roots_increase : Increases PlaceBefore p.roots
  pub roots : AreOneBase p.nodes p.roots
  pub single : AllAre (IsSingle p.nodes) p.roots
