use Rattle.std.proofs.Common.{arith}
use Rattle.ul_ranges.specs.Operations.{word_by}
use Rattle.ul_ranges.proofs.WordLaws.{clear_more, clear_ends, clear_all_along}
use Rattle.ul_ranges.proofs.words.are_clear.Goals as goal

pub returns-then-made-ne0 : goal.returns-then-made-ne0
returns-then-made-ne0 c =
    clear_ends (word_by c.args.operation) c.args.mine.now c.args.theirs.now c.loop-k.k _ c.loop-k-test.true c.requires
    (rw c.word_by-made.ensures at c.if-made-ne0.true) c.loop-k.invariant

pub loop-k-preserved : goal.loop-k-preserved
loop-k-preserved c =
    clear_more (word_by c.args.operation) c.args.mine.now c.args.theirs.now c.loop-k.k _ c.loop-k-test.true c.requires
    (rw c.word_by-made.ensures at c.if-made-ne0.false) c.loop-k.invariant

pub returns : goal.returns
returns c = clear_all_along (word_by c.args.operation) c.args.mine.now c.args.theirs.now c.loop-k.k _ (omega arith) c.loop-k.invariant
