use Rattle.std.proofs.Common.{refl, arith, ◌/◌, ◌%◌}
use Rattle.ul_ranges.proofs.WordLaws.{past_end, block_found, block_clear}
use Rattle.ul_ranges.proofs.words.next_flag.Goals as goal

pub returns-then-first-blocks : goal.returns-then-first-blocks
returns-then-first-blocks c =
    past_end c.args.blocks.now c.args.from (c.args.from / 64) c.if-first-blocks.true (λ k a b. absurd (omega (arith, a, b)))

pub returns-in-Some : goal.returns-in-Some
returns-in-Some c =
    block_found c.args.blocks.now c.args.from (c.args.from / 64) (c.args.from % 64) c.in-Some.bit _ refl c.in-Some.ensures.small (omega arith)
    (λ k a b. absurd (omega (arith, a, b))) c.in-Some.ensures.next

pub loop-j-init : goal.loop-j-init
loop-j-init c =
    block_clear c.args.blocks.now c.args.from (c.args.from / 64) (c.args.from % 64) _ refl (λ k a b. absurd (omega (arith, a, b))) c.in_default.ensures.next

pub returns-in-Some-next_bit : goal.returns-in-Some-next_bit
returns-in-Some-next_bit c =
    block_found c.args.blocks.now c.args.from c.loop-j.j 0 c.in-Some-next_bit.bit _ refl c.in-Some-next_bit.ensures.small (omega arith)
    (λ k a b. c.loop-j.invariant k a (omega (arith, b))) c.in-Some-next_bit.ensures.next

pub loop-j-preserved : goal.loop-j-preserved
loop-j-preserved c =
    block_clear c.args.blocks.now c.args.from c.loop-j.j 0 _ refl (λ k a b. c.loop-j.invariant k a (omega (arith, b))) c.in_default-next_bit.ensures.next

pub returns : goal.returns
returns c = past_end c.args.blocks.now c.args.from c.loop-j.j (omega arith) c.loop-j.invariant
