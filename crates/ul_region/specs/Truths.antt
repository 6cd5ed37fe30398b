-- Diagrams that stand for truths of worlds.
use Rattle.std.specs.Prelude.{◌≡◌, ◌⊎◌, ℕ, List, All, Bool, not, ◌&&◌, Some, length, slice_get}
use Rattle.ul_comparison.specs.Worlds.{WorldFields, IsWorld}
use Rattle.ul_interner.specs.Known.{Held, Knows}
use Rattle.ul_interner.specs.Marked.{Marked}
use Rattle.ul_tree.specs.Laws.{and_of}
use Rattle.ul_nodes.specs.Plain.{Plain}
use Rattle.ul_tree.specs.Regions.{HasTruth, region_of}
use Rattle.ul_tree.specs.Values.{tree_holds}
use Rattle.ul_algebra.specs.Answers.{IsDiagram}
use Rattle.ul_algebra.specs.Spelled.{tree_of}
use Rattle.ul_algebra.specs.declared.labels.DiagramLabel.{DiagramLabel}
use Rattle.ul_index.specs.Regions.{Region, Somewhere}

-- a diagram, as contracts see it
abbrev pub DiagramMark : Type 0
DiagramMark = Marked DiagramLabel

-- what an algebra knows
abbrev pub PassView : Type 0
PassView = Held DiagramLabel

-- the region of a diagram: the worlds where it holds with the empty extra
abbrev pub region_at : DiagramMark → Region
region_at m = region_of (tree_of m)

-- a diagram that is known, and has this truth at each world, whatever the extra
pub record IsTruth (h : PassView) (m : DiagramMark) (p : WorldFields → Bool) : Type 0 where
  pub diagram : IsDiagram h m
  pub truth : HasTruth (tree_of m) p

-- a diagram has the truth of worlds and extras, at each world
abbrev pub HoldsAs : DiagramMark → (WorldFields → List ℕ → Bool) → Type 0
HoldsAs m p = (w : WorldFields) (x : List ℕ) → IsWorld w → tree_holds (tree_of m) w x ≡ p w x

-- a diagram that stands for a region: it doesn't ask for the extra
abbrev pub IsRegion : PassView → DiagramMark → Type 0
IsRegion h m = IsTruth h m (region_at m)

-- a truth in a region alone
abbrev pub truth_within : Region → (WorldFields → Bool) → WorldFields → Bool
truth_within R p w = R w && p w

-- the diagram at a place of a list has this truth
pub record IsTruthAt (h : PassView) (ms : List DiagramMark) (k : ℕ) (p : WorldFields → Bool) : Type 0 where
  pub mark : DiagramMark
  pub at : slice_get ms k ≡ Some mark
  pub is : IsTruth h mark p

-- at each place the second list has where the first one's diagram holds in the region
pub record AreWithin (h : PassView) (region : DiagramMark) (truths within : List DiagramMark) : Type 0 where
  pub size : length within ≡ length truths
  pub known : All (IsDiagram h) within
  pub meets : (k : ℕ) (t m : DiagramMark) → slice_get truths k ≡ Some t → slice_get within k ≡ Some m
      → tree_of m ≡ and_of (tree_of region) (tree_of t)

-- somewhere in the region one of the two is true and the other is not
abbrev pub Apart : Region → (WorldFields → Bool) → (WorldFields → Bool) → Type 0
Apart R p q = Somewhere R (λ w. p w && not (q w)) ⊎ Somewhere R (λ w. q w && not (p w))

-- the tree stands at the place
abbrev pub HasTree : List DiagramMark → ℕ → Plain → Type 0
HasTree ms k t = (m : DiagramMark) × (slice_get ms k ≡ Some m) × (tree_of m ≡ t)

-- what stood at a place of the first list stands there in the second
abbrev pub Grows : List DiagramMark → List DiagramMark → Type 0
Grows ms ns = (k : ℕ) (m : DiagramMark) → slice_get ms k ≡ Some m → slice_get ns k ≡ Some m

-- more is known, and there may be more diagrams, all of them known
pub record IsGrown (g : PassView) (ms : List DiagramMark) (h : PassView) (ns : List DiagramMark) : Type 0 where
  pub knows : Knows g h
  pub grows : Grows ms ns
  pub known : All (IsDiagram h) ns

-- wherever a truth stands at a place of the first, the diagram has it in the region
abbrev pub HoldsWithin : PassView → DiagramMark → List DiagramMark → ℕ → DiagramMark → Type 0
HoldsWithin h region truths k m = (p : WorldFields → Bool) → IsTruthAt h truths k p → IsTruth h m (truth_within (region_at region) p)
