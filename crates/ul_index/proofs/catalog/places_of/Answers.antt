use Rattle.std.proofs.Common.{arith}
use Rattle.ul_index.proofs.NamePlaces.{places-more}
use Rattle.ul_index.proofs.catalog.places_of.Goals as goal

pub loop-place-preserved : goal.loop-place-preserved
loop-place-preserved c name =
    places-more _ _ _ c.index-packages-place.result c.in_ok-name.name name _ _ (omega arith) (omega arith) c.index-packages-place.is
    c.in_ok-name.ensures (c.in_ok-insert.ensures.updates.0 name) (c.loop-place.invariant name)
