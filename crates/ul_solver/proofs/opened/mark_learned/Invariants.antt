use Rattle.std.proofs.Common.{◌≡◌, length}
use Rattle.ul_solver.proofs.opened.mark_learned.Given as goal

abbrev pub invariant-loop-step : goal.invariant-loop-step
invariant-loop-step l = length l.counts.items ≡ length l.fn.counts.items
