use Rattle.std.proofs.Common.{◌≡◌, All, vec_len}
use Rattle.tests_threads.proofs.interner.claims.seats_of.Given as goal

abbrev pub invariant-loop-drawer : goal.invariant-loop-drawer
invariant-loop-drawer l = All (λ d. d.seat.claims ≡ l.claims) l.drawers.items × All (λ s. s.claims ≡ l.claims) l.seats.items

abbrev pub decreases-loop-drawer : goal.decreases-loop-drawer
decreases-loop-drawer l = vec_len l.drawers
