use Rattle.std.proofs.Common.{◌≡◌, length}
use Rattle.ul_solver.proofs.opened.mark_terms.Given as goal

abbrev pub invariant-loop-term : goal.invariant-loop-term
invariant-loop-term l = length l.counts.items ≡ length l.fn.counts.items
