use Rattle.ul_region.proofs.NameNumbers.{AreNextFrom}
use Rattle.ul_region.proofs.numbers.next_others.Given as goal

abbrev pub invariant-loop-place : goal.invariant-loop-place
invariant-loop-place l = AreNextFrom l.numbers l.truths l.seen.items l.next.items l.place
