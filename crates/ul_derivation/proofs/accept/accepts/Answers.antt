use Rattle.ul_derivation.proofs.Rights.{bad_here, right_next}
use Rattle.ul_derivation.proofs.accept.accepts.Goals as goal

pub loop-i-preserved : goal.loop-i-preserved
loop-i-preserved c = right_next c.args.problem.now c.as_slice-steps.result.now c.loop-i.i c.index-steps-i.result c.loop-i-test.true c.index-steps-i.is c.loop-i.invariant (c.in-Ok.ensures.0 c.if-not-right.false)

pub returns-then-not-right : goal.returns-then-not-right
returns-then-not-right c = record {
  accepts = tt;
  none = tt;
  fault = bad_here c.args.problem.now c.as_slice-steps.result.now c.args.derivation.now c.loop-i.i c.index-steps-i.result c.in-Ok.right c.as_slice-steps.ensures
      c.loop-i-test.true c.index-steps-i.is c.loop-i.invariant c.in-Ok.ensures c.if-not-right.true;
}
