use Rattle.std.proofs.Common.{◌≡◌, ◌++◌, ℕ, filter, not, take}
use Rattle.ul_prepared.specs.Orders.{flag_at}
use Rattle.ul_prepared.proofs.names.put_others.Given as goal

abbrev pub invariant-loop-place : goal.invariant-loop-place
invariant-loop-place l = l.found.items ≡ l.initial.found.items ++ filter (λ (k : ℕ). not (flag_at l.flags k)) (take l.place-index l.places)
