use Rattle.std.proofs.Common.{◌≡◌}
use Rattle.ul_nodes.specs.Apply.{size, same as same_plain, sames as sames_plain}
use Rattle.ul_nodes.specs.Keys.{branches_of, branches_from}
use Rattle.ul_tree.specs.Views.{tree_view}
use Rattle.ul_tree.proofs.copy.+same.Given as goal

abbrev pub decreases-same : goal.decreases-same
decreases-same l = size (tree_view l.left.now)

abbrev pub invariant-loop-index : goal.invariant-loop-index
invariant-loop-index l = same_plain (tree_view l.left) (tree_view l.right) ≡ sames_plain (branches_from l.index (branches_of (tree_view l.left))) (branches_from l.index (branches_of (tree_view l.right)))
