use Rattle.std.proofs.Common.{refl, []}
use Rattle.std.proofs.lemmas.Result.{IfOk-weaker}
use Rattle.ul_index.proofs.OrderedPlaces.{indirect_places}
use Rattle.ul_index.proofs.eligibility.eligible_indirect.Goals as goal

pub returns : goal.returns
returns c =
    IfOk-weaker c.places.result _ _
    (λ places are. indirect_places c.args.catalog.now c.args.name.now c.prereleases_of.result c.releases_of-releases.result.now [] c.in_ok-order.order _
    c.prereleases_of.ensures c.releases_of-releases.ensures.releases c.requires refl c.in_ok-order.ensures are)
    c.places.ensures
