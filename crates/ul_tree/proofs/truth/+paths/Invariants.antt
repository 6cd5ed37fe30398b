use Rattle.std.proofs.Common.{◌≡◌, ◌+◌, ◌^◌, ◌≤◌, min}
use Rattle.ul_nodes.specs.Apply.{size}
use Rattle.ul_tree.specs.Paths.{paths_of, paths_in}
use Rattle.ul_tree.specs.Views.{tree_view}
use Rattle.ul_nodes.specs.Keys.{branches_of, branches_from}
use Rattle.ul_tree.proofs.truth.+paths.Given as goal

abbrev pub decreases-paths : goal.decreases-paths
decreases-paths l = size (tree_view l.tree.now)

abbrev pub invariant-loop-index : goal.invariant-loop-index
invariant-loop-index l = record {
  bounded : l.count ≤ 2 ^ 127;
  left : min (l.count + paths_in (branches_from l.index (branches_of (tree_view l.tree)))) (2 ^ 127) ≡ min (paths_of (tree_view l.tree)) (2 ^ 127);
}
