use Rattle.ul_tree.specs.Views.{tree_view}
use Rattle.ul_nodes.specs.Keys.{level_view}
use Rattle.ul_tree.specs.SimplifyViews.{Lowers}
use Rattle.ul_tree.proofs.LevelsLeft.{HasLevelsOf, levels_left}
use Rattle.ul_tree.proofs.simplify.lowered.Given as goal

abbrev pub invariant-loop-alloc : goal.invariant-loop-alloc
invariant-loop-alloc l = record {
  lowers : Lowers (level_view l.level) (tree_view l.region) (tree_view l.made);
  levels : HasLevelsOf (tree_view l.region) (tree_view l.made);
}

abbrev pub decreases-loop-alloc : goal.decreases-loop-alloc
decreases-loop-alloc l = levels_left (tree_view l.region) (tree_view l.made)
