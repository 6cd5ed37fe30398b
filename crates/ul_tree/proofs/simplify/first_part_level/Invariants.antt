use Rattle.std.proofs.Common.{◌≡◌}
use Rattle.std.specs.Option.{option_map}
use Rattle.ul_nodes.specs.Keys.{level_view, branches_of, branches_from}
use Rattle.ul_tree.specs.SimplifyViews.{tops_of, parts_top}
use Rattle.ul_tree.specs.Views.{tree_view}
use Rattle.ul_tree.proofs.simplify.first_part_level.Given as goal

abbrev pub invariant-loop-index : goal.invariant-loop-index
invariant-loop-index l = tops_of (branches_from l.index (branches_of (tree_view l.tree))) (option_map level_view l.first) ≡ parts_top (tree_view l.tree)
