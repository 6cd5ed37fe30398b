use Rattle.std.proofs.Common.{◌≡◌, ◌+◌, ◌<◌, ◌≤◌, ◌⊎◌, All, length, vec_len}
use Rattle.std.specs.Vec.{vec_capacity}
use Rattle.ul_claims.specs.Rule.{parts_in_all}
use Rattle.ul_claims.specs.Seats.{HadNone}
use Rattle.ul_interner.specs.Known.{Held, Knows}
use Rattle.ul_workers.specs.Work.{Worked, Within, Good, Full, parts_of_seats}
use Rattle.ul_workers.proofs.gather.take_all.Given as goal

abbrev pub invariant-loop-worker : goal.invariant-loop-worker
invariant-loop-worker g l = let fits = g.J.Job.fits l.job in
    Knows l.initial.pass l.pass
    × (vec_len l.seats + vec_len l.workers ≤ vec_capacity l.seats)
    × All (λ w. (first : Held _) × (first.table ≡ l.interner) × Worked (Within l.limit fits) g.J.Job.known l.claims first w) l.workers.items
    × (length l.places.items ≡ l.limit)
    × Good fits (g.J.Job.known l.pass) l.places.items
    × All (λ s. s.claims ≡ l.claims) l.seats.items
    × (parts_of_seats l.seats.items + vec_len l.workers ≡ parts_in_all)
    × Full l.limit l.seats.items l.places.items
    × ((0 < vec_len l.workers) ⊎ HadNone l.seats.items)

abbrev pub decreases-loop-worker : goal.decreases-loop-worker
decreases-loop-worker g l = vec_len l.workers
