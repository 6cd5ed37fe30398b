use Rattle.std.proofs.Common.{◌++◌, ◌∷◌, [], List, ℕ, ap, sym, ◌∙◌}
use Rattle.ul_prepared.proofs.TriedPlaces.{places_more}
use Rattle.ul_prepared.proofs.names.rising_places.Goals as goal

pub loop-place-preserved : goal.loop-place-preserved
loop-place-preserved c = c.in_ok-push.ensures.items ∙ (ap (λ (z : List ℕ). z ++ c.loop-place.place ∷ []) c.loop-place.invariant ∙ sym (places_more c.loop-place.place))
