use Rattle.std.proofs.Common.{◌≡◌, ◌-◌, All, []}
use Rattle.ul_claims.specs.Rule.{parts_in_all}
use Rattle.tests_threads.proofs.interner.claims.drawers.Given as goal

abbrev pub invariant-loop : goal.invariant-loop
invariant-loop l =
    (l.first.claims ≡ l.claims) × (l.first.drawn ≡ []) × (l.first.parts ≡ parts_in_all - l.counter)
    × All (λ d. (d.seat.claims ≡ l.claims) × (d.seat.drawn ≡ []) × (d.claims ≡ 0)) l.drawers.items
