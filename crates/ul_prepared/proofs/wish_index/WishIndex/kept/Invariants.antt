use Rattle.std.proofs.Common.{map}
use Rattle.ul_prepared.proofs.KeptPlaces.{IsWalk, past}
use Rattle.ul_prepared.proofs.wish_index.WishIndex.kept.Given as goal

abbrev pub invariant-loop-at : goal.invariant-loop-at
invariant-loop-at l = IsWalk l.kept l.name (map (λ k. k.now) l.found.items) l.at

abbrev pub decreases-loop-at : goal.decreases-loop-at
decreases-loop-at l = past l.at
