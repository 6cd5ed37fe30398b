use Rattle.std.proofs.Common.{◌≡◌, ℕ, List, ◌++◌, map, drop}
use Rattle.std.specs.Prelude.{All}
use Rattle.ul_comparison.specs.Formulas.{AreFormulas}
use Rattle.ul_comparison.specs.Truth.{marker_holds}
use Rattle.ul_marker.specs.Views.{marker_view, markers_view}
use Rattle.ul_comparison.specs.Worlds.{WorldFields, IsWorld}
use Rattle.ul_tree.specs.Joining.{truths_of}
use Rattle.ul_nodes.specs.Reduced.{IsReduced}
use Rattle.ul_tree.specs.Views.{tree_view}
use Rattle.ul_tree.proofs.markers.+of_marker.Given as goal

abbrev pub invariant-of_markers-loop-part : goal.invariant-of_markers-loop-part
invariant-of_markers-loop-part l = record {
  left : AreFormulas (markers_view (drop l.part-index l.parts));
  reduced : All (λ t. IsReduced (tree_view t)) l.trees.items;
  truth : (w : WorldFields) (x : List ℕ) → IsWorld w → truths_of l.trees.items w x ++ map (λ m. marker_holds (marker_view m) w x) (drop l.part-index l.parts) ≡ map (λ m. marker_holds (marker_view m) w x) l.parts;
}
