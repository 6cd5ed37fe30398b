-- One edge of a lock, made of the regions of the leaves that chose both of its ends and of the truths of the requirements
-- that aim at its target.
use Rattle.std.specs.Prelude.{◌≡◌, ℕ, List, [], ◌∷◌, ◌++◌, Bool, true, false, ◌&&◌, Option, Some, None, All, Contains, map}
use Rattle.std.specs.List.{slice_get}
use Rattle.ul_base.specs.declared.node.Node.{Node}
use Rattle.ul_version.specs.Fields.{Fields}
use Rattle.ul_comparison.specs.Worlds.{WorldFields, IsWorld}
use Rattle.ul_requirement.specs.Fields.{RequirementFields}
use Rattle.ul_requirement.specs.Truth.{applies_at}
use Rattle.ul_nodes.specs.Plain.{Plain}
use Rattle.ul_algebra.specs.Spelled.{tree_of}
use Rattle.ul_lock.specs.declared.parts.Edge.{Edge}
use Rattle.ul_region.specs.Truths.{PassView, DiagramMark, IsTruth, region_at, truth_within}
use Rattle.ul_sound.specs.Merged.{IsSimplified}
use Rattle.ul_merge.specs.Made.{at_most_one}
use Rattle.ul_region.specs.Unions.{some_holds}
use Rattle.ul_merge.specs.declared.gathering.Group.{Group}
use Rattle.ul_merge.specs.declared.keys.PickKey.{PickKey}
use Rattle.ul_merge.specs.declared.targets.Use.{Use}

-- the diagram is true where in the region the truth holds
abbrev pub IsPartIn : PassView → DiagramMark → DiagramMark → DiagramMark → Type 0
IsPartIn h region truth d = IsTruth h d (truth_within (region_at region) (region_at truth))

-- every world of the one is in the other
abbrev pub LiesWithin : DiagramMark → DiagramMark → Type 0
LiesWithin d supported = (w : WorldFields) → IsWorld w → region_at d w ≡ true → region_at supported w ≡ true

-- the edge leads to the target, is true at some world, and its marker says where it is true
pub record IsMadeEdge (n : Node) (v : Fields) (truth : WorldFields → Bool) (supported : Plain) (e : Edge) : Type 0 where
  pub target : e.target ≡ n
  pub version : e.version ≡ v
  pub somewhere : (w : WorldFields) × IsWorld w × (truth w ≡ true)
  pub marker : IsSimplified (λ w. truth w ≡ true) supported e.marker

-- such an edge, or it is true nowhere
abbrev pub IsEdgeBy : Node → Fields → (WorldFields → Bool) → Plain → Option Edge → Type 0
IsEdgeBy n v truth supported None = (w : WorldFields) → IsWorld w → truth w ≡ false
IsEdgeBy n v truth supported (Some e) = IsMadeEdge n v truth supported e

-- the diagrams at some places of a list
abbrev pub picked : List DiagramMark → List ℕ → List DiagramMark
picked ms [] = []
picked ms (k ∷ ks) = at_most_one (slice_get ms k) ++ picked ms ks

-- some of the regions has the world, and some of the truths holds there
abbrev pub both_hold : List DiagramMark → List DiagramMark → WorldFields → Bool
both_hold regions truths w = some_holds regions w && some_holds truths w

-- where a target was chosen, with the requirements that aim at it: the places of leaves and requirements
abbrev pub leaves_in : Group PickKey Use → List ℕ
leaves_in g = map (λ u. u.leaf) g.values.items

-- the places of the requirements
abbrev pub requirements_in : Group PickKey Use → List ℕ
requirements_in g = map (λ u. u.requirement) g.values.items

-- where the edge to a target is true
abbrev pub group_truth : List DiagramMark → List DiagramMark → Group PickKey Use → WorldFields → Bool
group_truth regions truths g w = both_hold (picked regions (leaves_in g)) (picked truths (requirements_in g)) w

-- the edge to a target
abbrev pub MakesEdge : List DiagramMark → List DiagramMark → Plain → Group PickKey Use → Option Edge → Type 0
MakesEdge regions truths supported g o = IsEdgeBy g.key.node.now g.key.version.now (group_truth regions truths g) supported o

-- the diagrams have the truths of the requirements at the node, in order
abbrev pub AreTruths : PassView → Node → List RequirementFields → List DiagramMark → Type 0
AreTruths h n [] ms = ms ≡ []
AreTruths h n (r ∷ rs) [] = ⊥
AreTruths h n (r ∷ rs) (m ∷ ms) = IsTruth h m (applies_at r n) × AreTruths h n rs ms
