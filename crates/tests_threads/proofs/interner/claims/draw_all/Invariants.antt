use Rattle.std.proofs.Common.{◌≡◌, ◌≤◌, length}
use Rattle.tests_threads.proofs.interner.claims.draw_all.Given as goal

abbrev pub invariant-loop-round : goal.invariant-loop-round
invariant-loop-round l = (l.drawer.seat.claims ≡ l.claims) × (length l.drawer.seat.drawn ≤ l._round) × (l.drawer.claims ≤ l._round)
