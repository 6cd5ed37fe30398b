use Rattle.std.proofs.Common.{◌≡◌}
use Rattle.ul_prepared.specs.Orders.{places_below}
use Rattle.ul_prepared.proofs.names.rising_places.Given as goal

abbrev pub invariant-loop-place : goal.invariant-loop-place
invariant-loop-place l = l.places.items ≡ places_below l.place
