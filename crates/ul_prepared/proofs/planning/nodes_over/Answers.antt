use Rattle.std.proofs.Common.{◌≡◌, Global, Ok, Vec, map, sym, subst}
use Rattle.std.specs.Prelude.{All, IfOk}
use Rattle.std.specs.List.{AllZip}
use Rattle.std.proofs.lemmas.List.Elements.{All-weaker}
use Rattle.std.proofs.lemmas.Result.{IfOk-weaker}
use Rattle.ul_base.proofs.ForCallers.{made_holds}
use Rattle.ul_prepared.specs.Gathered.{AreSameNodes, HasOwnRows}
use Rattle.ul_prepared.specs.Places.{IsAmong, IsFound, IsFoundAt, IsIndexOf}
use Rattle.ul_prepared.specs.Prepared.{AreNodesAt}
use Rattle.ul_prepared.specs.Shared.{releases_shared}
use Rattle.ul_prepared.specs.declared.prepared.Planned.{Planned}
use Rattle.ul_prepared.proofs.NodeRows.{nodes_at_over}
use Rattle.ul_prepared.proofs.PlaceFacts.{nodes_found}
use Rattle.ul_prepared.proofs.planning.nodes_over.Goals as goal
use Rattle.ul_prepared.proofs.planning.nodes_over.Goals.{In_ok-places}

-- what the nodes were told holds of those that were handed on
told : (g : _) (c : In_ok-places g) (P : Vec Planned Global → Type 0) → IfOk c.planned_nodes-planned.result P → P c.in_ok-places.nodes
told g c P h =
    let nodes = c.in_ok-places.nodes in
    made_holds c.planned_nodes-planned.result nodes P (made_holds c.made_from.result nodes (λ v. c.planned_nodes-planned.result ≡ Ok v) c.in_ok-places.ensures.1 c.made_from.ensures) h

pub returns-clause-same : goal.returns-clause-same
returns-clause-same g c =
    let same = told g (goal.at.returns-clause-same g c).In_ok-places _ c.planned_nodes-planned.ensures.same in
    IfOk-weaker c.beside-2.result (λ both. _) (λ both. AreSameNodes both.0.items c.args.bare.now) (λ both e. subst (λ (z : Vec Planned Global). AreSameNodes z.items c.args.bare.now) (sym e.0) same) c.beside-2.ensures

pub returns-clause-rows : goal.returns-clause-rows
returns-clause-rows g c =
    let has = HasOwnRows c.planned_nodes-planned.new.algebra c.args.names.now c.args.bare.now c.planned_nodes-planned.new.truths.marks.items (map releases_shared c.args.shared.now) in
    let rows = told g (goal.at.returns-clause-rows g c).In_ok-places _ c.planned_nodes-planned.ensures.rows in
    IfOk-weaker c.beside-2.result (λ both. _) (λ both. All has both.0.items) (λ both e. subst (λ (z : Vec Planned Global). All has z.items) (sym e.0) rows) c.beside-2.ensures

pub planned_nodes-planned-requires-clause-index : goal.planned_nodes-planned-requires-clause-index
planned_nodes-planned-requires-clause-index g c = record { named = c.requires.named; places = c.in_ok-index.ensures }

pub places_of-roots-requires : goal.places_of-roots-requires
places_of-roots-requires g c =
    let index = c.in_ok-index.index in
    subst (λ z. All (IsFound z) c.args.starts.now) (sym c.in_ok-places.ensures.0)
    (All-weaker (IsAmong c.args.bare.now) (IsFound index) (λ n a. c.in_ok-index.ensures.whole n a) c.args.starts.now c.requires.starts)

pub returns-clause-roots : goal.returns-clause-roots
returns-clause-roots g c =
    let same = told g (goal.at.returns-clause-roots g c).In_ok-places _ c.planned_nodes-planned.ensures.same in
    IfOk-weaker c.beside-2.result (λ both. _) (λ both. AreNodesAt both.0.items both.1.items c.args.starts.now)
    (λ both e.
    let found = made_holds c.places_of-roots.result both.1 (λ v. AllZip (IsFoundAt c.in_ok-places.places) c.args.starts.now v.items) (made_holds c.made_from-2.result both.1 (λ v. c.places_of-roots.result ≡ Ok v) e.1 c.made_from-2.ensures) c.places_of-roots.ensures in
    let is = subst (IsIndexOf c.args.bare.now) (sym c.in_ok-places.ensures.0) c.in_ok-index.ensures in
    subst (λ (z : Vec Planned Global). AreNodesAt z.items both.1.items c.args.starts.now) (sym e.0)
    (nodes_at_over c.args.bare.now c.in_ok-places.nodes.items same both.1.items c.args.starts.now (nodes_found c.args.bare.now c.in_ok-places.places is both.1.items c.args.starts.now found)))
    c.beside-2.ensures
