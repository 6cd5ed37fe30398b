use Rattle.std.proofs.Common.{◌≡◌, drop}
use Rattle.ul_tree.specs.Sample.{has_key}
use Rattle.ul_tree.specs.Views.{points_view}
use Rattle.ul_tree.proofs.samples.has_point.Given as goal

abbrev pub invariant-loop-point : goal.invariant-loop-point
invariant-loop-point l = has_key (points_view (drop l.point-index l.points)) l.text ≡ has_key (points_view l.points) l.text
