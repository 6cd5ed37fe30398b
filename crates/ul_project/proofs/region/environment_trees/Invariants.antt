use Rattle.std.proofs.Common.{◌≡◌, ℕ, List, ◌++◌, map, drop}
use Rattle.std.specs.Prelude.{All}
use Rattle.ul_comparison.specs.Formulas.{AreFormulas}
use Rattle.ul_marker.specs.Views.{marker_view, markers_view}
use Rattle.ul_comparison.specs.Worlds.{WorldFields, IsWorld}
use Rattle.ul_tree.specs.Joining.{truths_of}
use Rattle.ul_nodes.specs.Reduced.{IsReduced}
use Rattle.ul_tree.specs.Views.{tree_view}
use Rattle.ul_project.specs.Region.{holds_bare}
use Rattle.ul_project.proofs.region.environment_trees.Given as goal

abbrev pub invariant-loop-marker : goal.invariant-loop-marker
invariant-loop-marker l = record {
  left : AreFormulas (markers_view (drop l.marker-index l.environments));
  reduced : All (λ t. IsReduced (tree_view t)) l.trees.items;
  truth : (w : WorldFields) (x : List ℕ) → IsWorld w → truths_of l.trees.items w x ++ map (λ m. holds_bare w (marker_view m)) (drop l.marker-index l.environments) ≡ map (λ m. holds_bare w (marker_view m)) l.environments;
}
