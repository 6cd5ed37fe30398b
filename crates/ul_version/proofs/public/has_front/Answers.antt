use Rattle.std.proofs.Common.{arith, ◌∙◌}
use Rattle.ul_version.proofs.Fronts.{front-all, front-differs}
use Rattle.ul_version.proofs.public.has_front.Goals as goal

pub returns-then-number_at-front : goal.returns-then-number_at-front
returns-then-number_at-front c =
    front-differs c.args.front.now c.args.release.now c.loop-i.i c.loop-i-test.true
    (λ e. c.if-number_at-front.true (c.number_at.ensures ∙ e))

pub returns : goal.returns
returns c = front-all c.args.front.now c.args.release.now (λ k lt. c.loop-i.invariant k (omega arith))
