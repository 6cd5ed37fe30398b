use Rattle.std.proofs.Common.{ℕ, List, map, filter, reverse, ap, ◌∙◌}
use Rattle.std.specs.List.{list_any}
use Rattle.std.specs.Ordering.{is_eq}
use Rattle.ul_base.proofs.ForCallers.{made_holds}
use Rattle.ul_version.specs.Fields.{Fields}
use Rattle.ul_version.specs.Order.{version_cmp}
use Rattle.ul_requirement.specs.Fields.{WishFields}
use Rattle.ul_prepared.specs.KeptPlaces.{is_on}
use Rattle.ul_prepared.specs.Orders.{order_in, tried_places}
use Rattle.ul_prepared.proofs.Loops.{made_equal}
use Rattle.ul_prepared.proofs.NameOrders.{order_is}
use Rattle.ul_prepared.proofs.names.order_of.Goals as goal

pub returns : goal.returns
returns c =
    let flags = c.in_ok-flags.flags.items in
    let versions = c.args.versions.now in
    let oldest = c.is_oldest_first-oldest.result in
    let flagged = made_holds c.flags_of.result c.in_ok-flags.flags _ c.in_ok-flags.ensures c.flags_of.ensures in
    let tried = made_holds c.tried.result c.in_ok-order.order _ c.in_ok-order.ensures c.tried.ensures in
    made_equal c.of.result c.in_ok-order.order.items (order_in c.args.sources.now.0 c.args.sources.now.1 c.args.name.now versions) c.of.ensures
    (order_is (λ k. k.now) c.args.sources.now.0 c.args.sources.now.1 c.args.name.now versions c.in_ok-kept.kept.items flags oldest c.in_ok-order.order.items
    (c.in_ok-kept.ensures ∙ ap (λ (w : WishFields). reverse (map (λ (k : List ℕ × Fields). k.1) (filter (is_on c.args.name.now) w.kept))) c.wish.ensures)
    (flagged ∙ ap (λ ks. map (λ (x : Fields). list_any (λ k. is_eq (version_cmp k.now x)) ks) versions) c.as_slice.ensures.value)
    c.is_oldest_first-oldest.ensures (tried ∙ ap (λ z. tried_places z oldest) c.as_slice-2.ensures.value))
