use Rattle.std.proofs.Common.{◌≡◌, None, drop}
use Rattle.std.specs.Prelude.{option_map}
use Rattle.ul_tree.specs.Joins.{trees_made}
use Rattle.ul_nodes.specs.Keys.{key_view}
use Rattle.ul_nodes.specs.Reduced.{IsReduced}
use Rattle.ul_tree.specs.Views.{tree_view}
use Rattle.ul_marker_text.specs.Nodes.{are_apart}
use Rattle.ul_marker_text.proofs.nodes.are_apart.Given as goal

abbrev pub invariant-loop-entry : goal.invariant-loop-entry
invariant-loop-entry l = record {
  standing : IsReduced (tree_view l.standing);
  left : are_apart (option_map key_view l.last) l.carried (tree_view l.standing) (trees_made (drop l.entry-index l.made)) ≡ are_apart None l.carried (tree_view l.other) (trees_made l.made);
}
