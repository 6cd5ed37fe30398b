use Rattle.std.proofs.Common.{◌≡◌}
use Rattle.ul_nodes.specs.Apply.{size}
use Rattle.ul_nodes.specs.Reduced.{IsReduced}
use Rattle.ul_tree.specs.Values.{tree_holds}
use Rattle.ul_tree.specs.Views.{tree_view}
use Rattle.ul_tree.proofs.truth.holds.Given as goal

abbrev pub invariant-loop-level : goal.invariant-loop-level
invariant-loop-level l = record {
  reduced : IsReduced (tree_view l.tree);
  same : tree_holds (tree_view l.tree) l.world l.extra ≡ tree_holds (tree_view l.fn.root) l.world l.extra;
}

abbrev pub decreases-loop-level : goal.decreases-loop-level
decreases-loop-level l = size (tree_view l.tree)
