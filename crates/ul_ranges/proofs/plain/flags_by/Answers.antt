use Rattle.std.proofs.Common.{false, arith}
use Rattle.ul_ranges.specs.Operations.{flag_by}
use Rattle.ul_ranges.proofs.WordLaws.{pairs_start, pairs_end}
use Rattle.ul_ranges.proofs.plain.flags_by.Goals as goal

pub loop-k-preserved : goal.loop-k-preserved
loop-k-preserved c =
    rw (c.in_ok-push.ensures.items, c.flag_by.ensures)
    (pairs_start (λ p. flag_by c.args.operation p.0 p.1) _ c.loop-k.flags.items c.args.left.now c.args.right.now c.loop-k.k false false c.loop-k-test.true c.requires c.loop-k.invariant)

pub returns : goal.returns
returns c = pairs_end (λ p. flag_by c.args.operation p.0 p.1) _ c.loop-k.flags.items c.args.left.now c.args.right.now c.loop-k.k (omega arith) c.loop-k.invariant
