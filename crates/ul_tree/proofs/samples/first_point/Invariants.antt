use Rattle.std.proofs.Common.{◌≡◌, drop}
use Rattle.ul_tree.specs.FirstParts.{first_branch}
use Rattle.ul_tree.specs.Views.{points_view}
use Rattle.ul_tree.proofs.samples.first_point.Given as goal

abbrev pub invariant-loop-point : goal.invariant-loop-point
invariant-loop-point l = first_branch (points_view (drop l.point-index l.points)) ≡ first_branch (points_view l.points)
