-- The problem of a region: its nodes and what is known of them, by places.
use Rattle.std.specs.Prelude.{◌≡◌, ℕ, List, [], ◌∷◌, Contains, Decides, not, Some, slice_get, get_or}
use Rattle.ul_base.specs.declared.node.Node.{Node}
use Rattle.ul_version.specs.Fields.{Fields}
use Rattle.ul_ranges.specs.Flags.{has}
use Rattle.ul_specifier.specs.Meaning.{meets_list}
use Rattle.ul_problem.specs.Plain.{Plain, node_at}
use Rattle.ul_problem.specs.Problems.{IsWellFormed}
use Rattle.ul_problem.specs.declared.problem.Need.{Need as PlaceNeed}
use Rattle.ul_problem.specs.declared.problem.NodeFacts.{NodeFacts}
use Rattle.ul_requirement.specs.Fields.{RequirementFields, WishFields}
use Rattle.ul_requirement.specs.Truth.{targets}
use Rattle.ul_index.specs.Regions.{Region}
use Rattle.ul_index.specs.Catalogs.{Packages, requirements, is_fit}
use Rattle.ul_index.specs.Eligible.{eligible}
use Rattle.ul_index.specs.Applied.{IsFirm}
use Rattle.ul_index.specs.Serves.{Suits}
use Rattle.ul_index.specs.Preference.{preference}
use Rattle.ul_region.specs.Best.{Need, AreNeeds}
use Rattle.ul_base.specs.Reached.{Reached}

-- the node stands at the place
abbrev pub IsAt : Plain → ℕ → Node → Type 0
IsAt p k n = (f : NodeFacts) × (node_at p k ≡ Some f) × (f.node ≡ n)

-- the nodes stand at the places, one for one
abbrev pub AreAt : Plain → List ℕ → List Node → Type 0
AreAt p [] [] = Unit {0}
AreAt p [] (n ∷ ns) = ⊥
AreAt p (k ∷ ks) [] = ⊥
AreAt p (k ∷ ks) (n ∷ ns) = IsAt p k n × AreAt p ks ns

-- the versions stand at the places, one for one
abbrev pub AreVersionsAt : List Fields → List ℕ → List Fields → Type 0
AreVersionsAt versions [] [] = Unit {0}
AreVersionsAt versions [] (x ∷ xs) = ⊥
AreVersionsAt versions (k ∷ ks) [] = ⊥
AreVersionsAt versions (k ∷ ks) (x ∷ xs) = (slice_get versions k ≡ Some x) × AreVersionsAt versions ks xs

-- a need by places: the target's place, and at which of its versions the specifiers are met
pub record IsNeedAt (p : Plain) (k : PlaceNeed) (t : Need) : Type 0 where
  pub facts : NodeFacts
  pub at : node_at p k.node ≡ Some facts
  pub node : facts.node ≡ t.node
  pub permitted : (u : ℕ) (y : Fields) → slice_get facts.versions u ≡ Some y → has u k.permitted ≡ meets_list t.specifiers y

-- needs by places, one for one
abbrev pub AreNeedsAt : Plain → List PlaceNeed → List Need → Type 0
AreNeedsAt p [] [] = Unit {0}
AreNeedsAt p [] (t ∷ ts) = ⊥
AreNeedsAt p (k ∷ ks) [] = ⊥
AreNeedsAt p (k ∷ ks) (t ∷ ts) = IsNeedAt p k t × AreNeedsAt p ks ts

-- the needs of a version
pub record HasNeedsAt (c : Packages) (R : Region) (p : Plain) (n : Node) (x : Fields) (ks : List PlaceNeed) : Type 0 where
  pub needs : List Need
  pub are : AreNeeds (requirements c n.name x) R n needs
  pub at : AreNeedsAt p ks needs

-- What is known of a node: its eligible versions, the order in which they are tried, those that the strategy bars, and the needs of each.
pub record IsFactsOf (c : Packages) (wish : WishFields) (R : Region) (p : Plain) (f : NodeFacts) : Type 0 where
  pub versions : f.versions ≡ eligible c f.node.name
  pub order : AreVersionsAt f.versions f.order (preference c wish f.node.name)
  pub barred : (v : ℕ) (x : Fields) → slice_get f.versions v ≡ Some x → Decides (not (has v f.barred)) (Suits wish.strategy R (is_fit c f.node.name x))
  pub needs : (v : ℕ) (x : Fields) → slice_get f.versions v ≡ Some x → HasNeedsAt c R p f.node x (get_or f.needs v [])

-- a firm requirement of an eligible version of the node aims at the other
pub record Leads (c : Packages) (R : Region) (n m : Node) : Type 0 where
  pub version : Fields
  pub is_eligible : Contains (eligible c n.name) version
  pub requirement : RequirementFields
  pub firm : IsFirm (requirements c n.name version) R n requirement
  pub aimed : Contains (targets requirement) m

-- The problem of a region: its roots are the nodes that it starts from, and its nodes are those that are reached from them by the needs
-- of eligible versions, in the order of nodes.
pub record IsProblemOf (c : Packages) (starts : List Node) (wish : WishFields) (R : Region) (p : Plain) : Type 0 where
  pub well_formed : IsWellFormed p
  pub roots : AreAt p p.roots starts
  pub facts : (k : ℕ) (f : NodeFacts) → node_at p k ≡ Some f → IsFactsOf c wish R p f
  pub reached : (k : ℕ) (f : NodeFacts) → node_at p k ≡ Some f → Reached (Contains starts) (Leads c R) f.node
