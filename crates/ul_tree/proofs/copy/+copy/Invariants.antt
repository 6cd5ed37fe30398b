use Rattle.std.proofs.Common.{◌≡◌, ◌+◌, ◌*◌, ◌++◌, map, drop}
use Rattle.ul_nodes.specs.Keys.{then_branches}
use Rattle.ul_tree.specs.Views.{tree_view, points_view}
use Rattle.ul_tree.proofs.copy.+copy.Given as goal

abbrev pub decreases-copy_within : goal.decreases-copy_within
decreases-copy_within l = 3 * l.room

abbrev pub decreases-copy_node : goal.decreases-copy_node
decreases-copy_node l = 3 * l.room + 2

abbrev pub decreases-copy_points : goal.decreases-copy_points
decreases-copy_points l = 3 * l.room + 1

abbrev pub decreases-copy_parts : goal.decreases-copy_parts
decreases-copy_parts l = 3 * l.room + 1

abbrev pub invariant-copy_parts-loop-part : goal.invariant-copy_parts-loop-part
invariant-copy_parts-loop-part l = map tree_view l.copied.items ++ map tree_view (drop l.part-index l.parts) ≡ map tree_view l.parts

abbrev pub invariant-copy_points-loop-point : goal.invariant-copy_points-loop-point
invariant-copy_points-loop-point l = then_branches (points_view l.copied.items) (points_view (drop l.point-index l.points)) ≡ points_view l.points
