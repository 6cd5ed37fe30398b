use Rattle.std.proofs.Common.{arith, sym, ◌∙◌}
use Rattle.ul_version.specs.Order.{segment_cmp}
use Rattle.ul_version.specs.declared.fields.Segment.TheVariants.{Number}
use Rattle.ul_version.proofs.Orders.{slice_cmp-longer, slice_cmp-shorter}
use Rattle.ul_version.proofs.order.cmp_locals.Goals as goal

pub returns-then-i-ys : goal.returns-then-i-ys
returns-then-i-ys c = sym (c.loop-i.invariant.1 ∙ slice_cmp-longer segment_cmp c.args.xs.now c.args.ys.now c.loop-i.i (Number 0) c.loop-i-test.true c.if-i-ys.true)

pub returns-then-xs-ys : goal.returns-then-xs-ys
returns-then-xs-ys c = sym (c.loop-i.invariant.1 ∙ slice_cmp-shorter segment_cmp c.args.xs.now c.args.ys.now c.loop-i.i (Number 0) (omega arith) (omega arith))
