use Rattle.std.proofs.Common.{◌≡◌, ◌≤◌, length, map}
use Rattle.std.specs.Prelude.{All}
use Rattle.ul_index.specs.Eligible.{passes}
use Rattle.ul_index.specs.VersionOrders.{IsPlaceIn, places_in}
use Rattle.ul_index.proofs.OrderedPlaces.{versions_from}
use Rattle.ul_index.proofs.eligibility.order.Given as goal

abbrev pub invariant-loop-place : goal.invariant-loop-place
invariant-loop-place l =
    (l.place ≤ length l.releases)
    × (map (λ p. p.0) (places_in l.order) ≡ versions_from (passes (map (λ q. q.now) l.directs) l.pre) l.releases l.place)
    × All (IsPlaceIn l.releases) (places_in l.order)

abbrev pub decreases-loop-place : goal.decreases-loop-place
decreases-loop-place l = l.place
