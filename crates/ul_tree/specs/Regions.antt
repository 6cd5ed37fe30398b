-- Regions of worlds as trees: trees whose truth doesn't ask for the extra.
use Rattle.std.specs.Prelude.{◌≡◌, ℕ, List, [], Bool, false}
use Rattle.ul_comparison.specs.Worlds.{WorldFields, IsWorld}
use Rattle.ul_tree.specs.Laws.{at_extra_of}
use Rattle.ul_nodes.specs.Levels.{IsExtra}
use Rattle.ul_nodes.specs.Plain.{Plain}
use Rattle.ul_nodes.specs.Reduced.{IsReduced}
use Rattle.ul_tree.specs.Sample.{asks_extra}
use Rattle.ul_tree.specs.Values.{tree_holds}

-- the truth of a tree with the empty extra
abbrev pub region_of : Plain → WorldFields → Bool
region_of t w = tree_holds t w []

-- the tree is reduced, and has this truth at each world, whatever the extra
pub record HasTruth (t : Plain) (p : WorldFields → Bool) : Type 0 where
  pub reduced : IsReduced t
  pub truth : (w : WorldFields) (x : List ℕ) → IsWorld w → tree_holds t w x ≡ p w

-- the tree stands for a region: its truth doesn't ask for the extra
abbrev pub IsRegionTree : Plain → Type 0
IsRegionTree t = HasTruth t (region_of t)

-- a tree whose truth doesn't depend on the extra asks for none: so a region's tree does, and a tree at an extra,
-- which is a region's
pub record NoExtra : Type 0 where
  pub independent : (t : Plain) → IsReduced t → ((w : WorldFields) (x : List ℕ) → IsWorld w → IsExtra x → tree_holds t w x ≡ region_of t w) → asks_extra t ≡ false
  pub region : (t : Plain) → IsRegionTree t → asks_extra t ≡ false
  pub back : (t : Plain) → IsReduced t → asks_extra t ≡ false → IsRegionTree t
  pub at_extra : (t : Plain) (x : List ℕ) → IsReduced t → asks_extra (at_extra_of t x) ≡ false
