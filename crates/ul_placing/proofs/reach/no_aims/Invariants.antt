use Rattle.std.proofs.Common.{◌≡◌, None, replicate}
use Rattle.ul_placing.proofs.reach.no_aims.Given as goal

abbrev pub invariant-loop : goal.invariant-loop
invariant-loop l = l.aims.items ≡ replicate l.counter None
