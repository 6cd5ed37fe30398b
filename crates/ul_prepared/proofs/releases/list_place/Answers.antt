use Rattle.ul_prepared.proofs.ListPlaces.{stays_pushed}
use Rattle.ul_prepared.proofs.releases.list_place.Goals as goal

pub returns-clause-stays : goal.returns-clause-stays
returns-clause-stays c = stays_pushed _ _ _ c.in_ok-push.ensures.items
