use Rattle.std.proofs.Common.{arith, sym}
use Rattle.ul_marker.proofs.Chains.{first-start, opened-le, pieces-cut, pieces-end, pieces-next}
use Rattle.ul_marker.proofs.reading.part_len.Goals as goal

pub loop-i-init : goal.loop-i-init
loop-i-init c = (omega arith, first-start c.args.kind c.args.tokens.now)

pub loop-i-preserved : goal.loop-i-preserved
loop-i-preserved c =
    rw c.opened-count.ensures (
      omega (arith, opened-le c.index-tokens-i.result c.loop-i.count, c.loop-i.invariant.0),
      pieces-next c.args.kind c.loop-i.count c.args.tokens.now c.loop-i.i c.index-tokens-i.result c.loop-i-test.true c.index-tokens-i.is (sym c.if-cuts.ensures) c.loop-i.invariant.1,
    )

pub returns-then-cuts-clause-more : goal.returns-then-cuts-clause-more
returns-then-cuts-clause-more c =
    λ lt. pieces-cut c.args.kind c.loop-i.count c.args.tokens.now c.loop-i.i c.index-tokens-i.result lt c.index-tokens-i.is (sym c.if-cuts.ensures) c.loop-i.invariant.1

pub returns-clause-last : goal.returns-clause-last
returns-clause-last c = λ all. pieces-end c.args.kind c.loop-i.count c.args.tokens.now c.loop-i.i (omega arith) c.loop-i.invariant.1
