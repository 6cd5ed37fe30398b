use Rattle.std.proofs.Common.{◌≡◌, ◌+◌, ◌*◌, ◌<◌, string_bytes}
use Rattle.ul_nodes.specs.Apply.{size}
use Rattle.ul_nodes.specs.Keys.{level_view, rest_of, branches_of, branches_from}
use Rattle.ul_nodes.specs.Reduced.{IsReduced}
use Rattle.ul_tree.specs.Views.{tree_view}
use Rattle.ul_tree.specs.PathList.{paths_to_true, paths_from, paths_at}
use Rattle.ul_marker_text.specs.Printing.{paths_behind}
use Rattle.ul_marker_text.proofs.printing.+print.Given as goal

abbrev pub decreases-print : goal.decreases-print
decreases-print l = 4 * size (tree_view l.tree.now) + 3

abbrev pub decreases-print_points : goal.decreases-print_points
decreases-print_points l = 4 * size (tree_view l.tree.now) + 2

abbrev pub decreases-print_pieces : goal.decreases-print_pieces
decreases-print_pieces l = 4 * size (tree_view l.tree.now) + 2

abbrev pub decreases-print_piece : goal.decreases-print_piece
decreases-print_piece l = 4 * size (tree_view l.part.now) + 4

abbrev pub decreases-print_point : goal.decreases-print_point
decreases-print_point l = 4 * size (tree_view l.part.now) + 4

abbrev pub invariant-print_points-loop-index : goal.invariant-print_points-loop-index
invariant-print_points-loop-index l =
    paths_behind (string_bytes l.out) l.prefix (paths_at (level_view l.level) (branches_from l.index (branches_of (tree_view l.tree))))
    ≡ paths_behind (string_bytes l.initial.out) l.prefix (paths_at (level_view l.level) (branches_of (tree_view l.tree)))

abbrev pub invariant-print_pieces-loop-index : goal.invariant-print_pieces-loop-index
invariant-print_pieces-loop-index l = record {
  reduced : IsReduced (tree_view l.part);
  smaller : size (tree_view l.part) < size (tree_view l.tree);
  left : paths_behind (string_bytes l.out) l.prefix (paths_from l.start (paths_to_true (tree_view l.part)) (branches_from l.index (branches_of (tree_view l.tree))))
      ≡ paths_behind (string_bytes l.initial.out) l.prefix (paths_from 0 (paths_to_true (rest_of (tree_view l.tree))) (branches_of (tree_view l.tree)));
}
