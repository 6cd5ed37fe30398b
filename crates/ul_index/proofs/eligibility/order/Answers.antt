use Rattle.std.proofs.Common.{◌≡◌, ◌+◌, ◌-◌, ◌<◌, arith, ap, length, map, sym, ◌∙◌}
use Rattle.std.specs.BTreeSet.{insert_key}
use Rattle.ul_index.specs.Eligible.{passes}
use Rattle.ul_index.specs.VersionOrders.{by_version, places_in}
use Rattle.ul_index.proofs.OrderedPlaces.{places-take, versions-take}
use Rattle.ul_index.proofs.eligibility.order.Goals as goal

pub loop-place-preserved : goal.loop-place-preserved
loop-place-preserved c =
    let n = c.loop-place.place in
    let rs = c.args.releases.now in
    let r = c.index-releases-place.result in
    let qs = map (λ q. q.now) c.args.directs.now in
    let inv = c.loop-place.invariant in
    let up : n ≡ (n - 1) + 1 = omega arith in
    let lt : n - 1 < length rs = omega (arith, inv.0) in
    let is : places_in c.add.new.self ≡ insert_key by_version (places_in c.loop-place.order) (r.version, n - 1) =
    c.in_ok-_added.ensures ∙ ap (λ v. insert_key by_version (places_in c.loop-place.order) (v, n - 1)) c.version_of.ensures in (
      omega (arith, inv.0),
      versions-take (passes qs c.takes_pre-pre.result) rs n (n - 1) r (places_in c.loop-place.order) _ up lt c.index-releases-place.is (sym c.if-not-passes.ensures) c.requires.differ inv.1 is,
      places-take rs (n - 1) r (places_in c.loop-place.order) _ lt c.index-releases-place.is inv.2 is,
    )
