use Rattle.std.proofs.Common.{arith, sym}
use Rattle.ul_version.proofs.ByteRuns.{split-last, split-more}
use Rattle.ul_version.proofs.ascii.piece_len.Goals as goal

pub returns-then-has-clause-more : goal.returns-then-has-clause-more
returns-then-has-clause-more g c =
    λ lt. split-more (g.C.ByteClass.has c.args.class.now) c.args.text.now c.loop-i.i lt (sym c.if-has.ensures) c.loop-i.invariant

pub returns-clause-last : goal.returns-clause-last
returns-clause-last g c =
    λ all. split-last (g.C.ByteClass.has c.args.class.now) c.args.text.now (λ k lt. c.loop-i.invariant k (omega arith))
