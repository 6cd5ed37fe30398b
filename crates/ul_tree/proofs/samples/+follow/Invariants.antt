use Rattle.ul_nodes.specs.Apply.{size}
use Rattle.ul_tree.specs.Views.{tree_view}
use Rattle.ul_tree.proofs.samples.+follow.Given as goal

abbrev pub decreases-follow : goal.decreases-follow
decreases-follow l = size (tree_view l.tree.now)
