use Rattle.std.proofs.Common.{◌≡◌, ℕ, get_or, map, take}
use Rattle.ul_placing.proofs.ranks.ranks_at.Given as goal

abbrev pub invariant-loop-place : goal.invariant-loop-place
invariant-loop-place l = l.list.items ≡ map (λ (k : ℕ). get_or l.ranks k 0) (take l.place-index l.places)
