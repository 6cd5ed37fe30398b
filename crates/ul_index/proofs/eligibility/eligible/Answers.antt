use Rattle.std.proofs.Common.{ap, map, ◌∙◌}
use Rattle.std.proofs.lemmas.Result.{IfOk-weaker}
use Rattle.ul_index.proofs.OrderedPlaces.{eligible_places}
use Rattle.ul_index.proofs.eligibility.eligible.Goals as goal

pub returns : goal.returns
returns c =
    IfOk-weaker c.places.result _ _
    (λ places are. eligible_places c.args.catalog.now c.args.name.now c.prereleases_of.result c.releases_of-releases.result.now (map (λ q. q.now) c.as_slice.result.now) c.in_ok-order.order _
    c.prereleases_of.ensures c.releases_of-releases.ensures.releases (ap (map (λ q. q.now)) c.as_slice.ensures.value ∙ c.in_ok-directs.ensures) c.in_ok-order.ensures are)
    c.places.ensures
