use Rattle.std.proofs.Common.{◌≡◌, map}
use Rattle.ul_prepared.specs.KeptPlaces.{AreLastPlaces, last_before}
use Rattle.ul_prepared.specs.Orders.{places_below}
use Rattle.ul_prepared.proofs.wish_index.WishIndex.of.Given as goal

abbrev pub invariant-loop-place : goal.invariant-loop-place
invariant-loop-place l = record {
  last : AreLastPlaces l.kept l.place l.last;
  before : l.before.items ≡ map (last_before l.kept) (places_below l.place);
}
