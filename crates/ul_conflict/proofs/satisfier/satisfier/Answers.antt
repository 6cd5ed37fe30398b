use Rattle.std.proofs.Common.{arith}
use Rattle.ul_conflict.proofs.Satisfying.{down_step, part_here}
use Rattle.ul_conflict.proofs.satisfier.satisfier.Goals as goal

pub returns-then-takes_part : goal.returns-then-takes_part
returns-then-takes_part c = record {
  within = c.loop-place.invariant.within;
  held = c.loop-place.invariant.held;
  part = part_here c.args.trail.now.facts c.args.terms.now c.args.skip c.loop-place.place c.if-takes_part.ensures;
}

pub loop-place-preserved : goal.loop-place-preserved
loop-place-preserved c = record {
  within = let a = c.loop-place.invariant.within in omega arith;
  held = λ h. down_step c.args.trail.now.facts c.args.terms.now c.args.skip c.loop-place.place (omega arith) c.if-takes_part.ensures (c.loop-place.invariant.held h);
}
