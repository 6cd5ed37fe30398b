use Rattle.std.proofs.Common.{ap, sym, ◌∙◌}
use Rattle.std.proofs.lemmas.List.{drop_all}
use Rattle.ul_tree.specs.FirstParts.{first_branch}
use Rattle.ul_tree.specs.Views.{points_view}
use Rattle.ul_tree.proofs.Follow.{point_met, point_passed}
use Rattle.ul_tree.proofs.samples.first_point.Goals as goal

pub loop-point-preserved : goal.loop-point-preserved
loop-point-preserved c = point_passed c.args.points.now c.loop-point.point-index c.point-item.result c.loop-point-test.true c.point-item.is (sym c.if-not-is_false.ensures) ∙ c.loop-point.invariant

pub returns-then-not-is_false : goal.returns-then-not-is_false
returns-then-not-is_false c = sym (point_met c.args.points.now c.loop-point.point-index c.point-item.result c.loop-point-test.true c.point-item.is (sym c.if-not-is_false.ensures)) ∙ c.loop-point.invariant

pub returns : goal.returns
returns c = sym (ap (λ ps. first_branch (points_view ps)) (drop_all c.loop-point.point-index c.args.points.now c.loop-point-test.false)) ∙ c.loop-point.invariant
