use Rattle.std.proofs.Common.{map}
use Rattle.ul_index.proofs.DirectPlaces.{IsWalk, ahead}
use Rattle.ul_index.proofs.direct_index.DirectIndex.on.Given as goal

abbrev pub invariant-loop-requirement : goal.invariant-loop-requirement
invariant-loop-requirement l = IsWalk l.requirements l.name (map (λ q. q.now) l.found.items) l.place

abbrev pub decreases-loop-requirement : goal.decreases-loop-requirement
decreases-loop-requirement l = ahead l.requirements l.name l.place
