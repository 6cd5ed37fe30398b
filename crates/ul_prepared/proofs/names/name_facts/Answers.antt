use Rattle.std.proofs.Common.{◌<◌, ◌^◌, ℕ, List, length, sym, ap, subst, ◌∙◌}
use Rattle.std.proofs.lemmas.List.{length-map}
use Rattle.ul_base.proofs.ForCallers.{made_holds}
use Rattle.ul_version.specs.Fields.{Fields}
use Rattle.ul_prepared.specs.Orders.{order_in}
use Rattle.ul_prepared.proofs.NameOrders.{name_is}
use Rattle.ul_prepared.proofs.names.name_facts.Goals as goal

pub returns-clause-name : goal.returns-clause-name
returns-clause-name c = made_holds c.copy.result c.in_ok-facts.name _ c.in_ok-facts.ensures.1 c.copy.ensures

pub order_of-order-requires : goal.order_of-order-requires
order_of-order-requires c = subst (λ (m : ℕ). m < 2 ^ 32) (sym (ap (λ (z : List Fields). length z) (c.as_slice.ensures.value ∙ c.in_ok-list.ensures) ∙ length-map c.args.releases.now (λ r. r.now.version))) c.requires.few

pub returns-clause-facts : goal.returns-clause-facts
returns-clause-facts c =
    let packages = c.args.sources.now.0 in
    let wish = c.args.sources.now.1 in
    let name = c.args.name.now in
    let list = c.in_ok-list.list.items in
    let order = made_holds c.order_of-order.result c.in_ok-list-2.order _ c.in_ok-list-2.ensures.1 c.order_of-order.ensures in
    let versions = made_holds c.of.result c.in_ok-order.versions _ c.in_ok-order.ensures.1 c.of.ensures in
    name_is packages wish name list c.in_ok-list-2.order (record { name = c.in_ok-facts.name; versions = c.in_ok-facts.facts.0; order = c.in_ok-facts.facts.1 })
    (returns-clause-name c) (ap (λ z. z.0) c.in_ok-facts.ensures.0 ∙ versions ∙ ap (λ z. z.items) c.in_ok-list-2.ensures.0) (ap (λ z. z.1) c.in_ok-facts.ensures.0 ∙ c.in_ok-order.ensures.0)
    (c.in_ok-list.ensures ∙ c.requires.versions) c.requires.rising
    (subst (λ (m : ℕ). m < 2 ^ 32) (sym (ap (λ (z : List Fields). length z) c.in_ok-list.ensures ∙ length-map c.args.releases.now (λ r. r.now.version))) c.requires.few)
    (order ∙ ap (order_in packages wish name) c.as_slice.ensures.value)
