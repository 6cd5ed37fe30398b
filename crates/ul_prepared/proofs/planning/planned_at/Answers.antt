use Rattle.std.proofs.Common.{◌≡◌, List, ap, length, map, sym, subst, ◌∙◌}
use Rattle.std.specs.Prelude.{All, slice_get, Some}
use Rattle.std.specs.List.{AllZip}
use Rattle.std.proofs.lemmas.Slice.Zip.{AllZip-long}
use Rattle.ul_base.specs.declared.node.Node.{Node}
use Rattle.ul_base.proofs.ForCallers.{made_holds}
use Rattle.ul_problem.specs.declared.problem.Need.{Need as PlaceNeed}
use Rattle.ul_requirement.specs.Truth.{base}
use Rattle.ul_region.specs.Rows.{AreAsked}
use Rattle.ul_region.specs.declared.rows.Asked.{Asked}
use Rattle.ul_prepared.specs.Gathered.{HasName}
use Rattle.ul_prepared.specs.Places.{IsAmong}
use Rattle.ul_prepared.specs.Prepared.{AreRowAims, HasBaseAt}
use Rattle.ul_prepared.specs.Shared.{IsOfList, IsPlaced, IsRowOf, list_in}
use Rattle.ul_prepared.specs.Targets.{AsksTargets}
use Rattle.ul_prepared.specs.declared.prepared.NameFacts.{NameFacts}
use Rattle.ul_prepared.specs.declared.prepared.Planned.{Planned}
use Rattle.ul_prepared.specs.declared.rows.OwnRows.{OwnRows}
use Rattle.ul_prepared.specs.declared.shared.Fitted.{Fitted}
use Rattle.ul_prepared.proofs.PlaceFacts.{base_found}
use Rattle.ul_prepared.proofs.SharedFacts.{node_rows, placed, shared_grown}
use Rattle.ul_prepared.proofs.TargetFacts.{lists_ask}
use Rattle.ul_prepared.proofs.planning.planned_at.Goals as goal
use Rattle.ul_prepared.proofs.planning.planned_at.Goals.{In_ok-asked-2, In_ok-rows-2}

-- what the node asks of each list, and its needs
are : (g : _) (c : In_ok-asked-2 g) → AllZip (AreAsked c.asked_lists.new.algebra c.args.planned.now.node c.asked_lists.new.truths.marks.items) c.args.own.now.lists.items c.in_ok-asked.asked.items
are g c = subst (λ ls. AllZip (AreAsked c.asked_lists.new.algebra c.args.planned.now.node c.asked_lists.new.truths.marks.items) ls c.in_ok-asked.asked.items) c.as_slice-lists.ensures.value c.in_ok-asked.ensures.asked

aimed : (g : _) (c : In_ok-asked-2 g) → AllZip (AreRowAims c.args.names.now c.args.nodes.now) c.in_ok-asked-2.aims.items c.in_ok-asked.asked.items
aimed g c =
    let aims = AreRowAims c.args.names.now c.args.nodes.now in
    subst (AllZip aims c.in_ok-asked-2.aims.items) c.as_slice.ensures.value
    (made_holds c.list_aims-aims.result c.in_ok-asked-2.aims (λ v. AllZip aims v.items c.as_slice.result.now) c.in_ok-asked-2.ensures.1 c.list_aims-aims.ensures.aims)

-- there is as much of what is asked as there are lists
many : (g : _) (c : In_ok-asked-2 g) → length c.in_ok-asked.asked.items ≡ length c.args.own.now.lists.items
many g c = AllZip-long _ _ _ (are g c)

same_node : (g : _) (c : In_ok-rows-2 g) → c.in_ok-rows-2.node ≡ c.args.planned.now.node
same_node g c = made_holds c.copy.result c.in_ok-rows-2.node (λ n. n ≡ c.args.planned.now.node) c.in_ok-rows-2.ensures.1 c.copy.ensures

pub rows_of-rows-requires-clause-asked : goal.rows_of-rows-requires-clause-asked
rows_of-rows-requires-clause-asked g c =
    let own = c.args.own.now in
    let asked = c.as_slice-2.result.now in
    subst (λ (fs : List Fitted). All (IsPlaced (length asked)) fs) (sym c.as_slice-releases.ensures.value)
    (placed own.lists.items asked own.releases.items
    (ap length (c.as_slice-2.ensures.value ∙ ap (λ z. z.items) c.in_ok-asked-2.ensures.0) ∙ many g (goal.at.rows_of-rows-requires-clause-asked g c).In_ok-asked-2) c.requires.shared.listed)

pub rows_of-rows-requires-clause-aims : goal.rows_of-rows-requires-clause-aims
rows_of-rows-requires-clause-aims g c =
    let own = c.args.own.now in
    let aims = c.as_slice-3.result.now in
    let at = (goal.at.rows_of-rows-requires-clause-aims g c).In_ok-asked-2 in
    subst (λ (fs : List Fitted). All (IsPlaced (length aims)) fs) (sym c.as_slice-releases.ensures.value)
    (placed own.lists.items aims own.releases.items (ap length c.as_slice-3.ensures.value ∙ (sym (AllZip-long _ _ _ (aimed g at)) ∙ many g at)) c.requires.shared.listed)

pub returns-in_err-asked-clause-grown : goal.returns-in_err-asked-clause-grown
returns-in_err-asked-clause-grown g c = c.asked_lists.ensures.grown

pub returns-in_err-asked-2-clause-grown : goal.returns-in_err-asked-2-clause-grown
returns-in_err-asked-2-clause-grown g c = c.asked_lists.ensures.grown

pub returns-in_err-rows-clause-grown : goal.returns-in_err-rows-clause-grown
returns-in_err-rows-clause-grown g c = c.asked_lists.ensures.grown

pub returns-in_err-rows-2-clause-grown : goal.returns-in_err-rows-2-clause-grown
returns-in_err-rows-2-clause-grown g c = c.asked_lists.ensures.grown

pub returns-clause-grown : goal.returns-clause-grown
returns-clause-grown g c = c.asked_lists.ensures.grown

pub base_of-requires : goal.base_of-requires
base_of-requires g c = c.requires.index.places.whole (base c.args.planned.now.node.name) c.requires.based.base

pub list_aims-aims-requires-clause-targets : goal.list_aims-aims-requires-clause-targets
list_aims-aims-requires-clause-targets g c =
    subst (All (All (AsksTargets (IsAmong c.args.nodes.now)))) (sym c.as_slice.ensures.value)
    (lists_ask (IsAmong c.args.nodes.now) c.asked_lists.new.algebra c.args.planned.now.node c.asked_lists.new.truths.marks.items c.args.own.now.lists.items c.in_ok-asked.asked.items
    (subst (λ ls. AllZip (AreAsked c.asked_lists.new.algebra c.args.planned.now.node c.asked_lists.new.truths.marks.items) ls c.in_ok-asked.asked.items) c.as_slice-lists.ensures.value c.in_ok-asked.ensures.asked) c.requires.targets)

pub returns-in_err-base-clause-sets : goal.returns-in_err-base-clause-sets
returns-in_err-base-clause-sets g c = c.requires.sets

pub returns-in_err-asked-clause-sets : goal.returns-in_err-asked-clause-sets
returns-in_err-asked-clause-sets g c = c.requires.sets

pub returns-in_err-asked-2-clause-sets : goal.returns-in_err-asked-2-clause-sets
returns-in_err-asked-2-clause-sets g c = c.list_aims-aims.ensures.sets

pub returns-in_err-rows-clause-sets : goal.returns-in_err-rows-clause-sets
returns-in_err-rows-clause-sets g c = c.list_aims-aims.ensures.sets

pub returns-in_err-rows-2-clause-sets : goal.returns-in_err-rows-2-clause-sets
returns-in_err-rows-2-clause-sets g c = c.list_aims-aims.ensures.sets

pub returns-clause-sets : goal.returns-clause-sets
returns-clause-sets g c = c.list_aims-aims.ensures.sets

pub returns-clause-node : goal.returns-clause-node
returns-clause-node g c = ap (λ n. (n, c.args.planned.now.name)) (same_node g (goal.at.returns-clause-node g c).In_ok-rows-2)

pub returns-clause-rows : goal.returns-clause-rows
returns-clause-rows g c =
    let places = goal.at.returns-clause-rows g c in
    let names = c.args.names.now in
    let nodes = c.args.nodes.now in
    let h = c.asked_lists.new.algebra in
    let truths = c.asked_lists.new.truths.marks.items in
    let own = c.args.own.now in
    let name = c.args.planned.now.name in
    let found = c.in_ok-base.base in
    let asked = c.in_ok-asked.asked.items in
    let aims = c.in_ok-asked-2.aims.items in
    let made = c.in_ok-rows-2.rows in
    let same = sym (same_node g places.In_ok-rows-2) in
    let of_asked = c.as_slice-2.ensures.value ∙ ap (λ z. z.items) c.in_ok-asked-2.ensures.0 in
    let told = made_holds c.rows_of-rows.result c.in_ok-rows.rows in
    let handed = sym c.in_ok-rows-2.ensures.0 in
    let rows : AllZip (IsRowOf asked) own.releases.items made.rows.items =
    subst (λ (fs : List Fitted). AllZip (IsRowOf asked) fs made.rows.items) c.as_slice-releases.ensures.value
    (subst (λ (ls : List (List Asked)). AllZip (IsRowOf ls) c.as_slice-releases.result.now made.rows.items) of_asked
    (subst (λ (z : OwnRows). AllZip (IsRowOf c.as_slice-2.result.now) c.as_slice-releases.result.now z.rows.items) handed
    (told (λ z. AllZip (IsRowOf c.as_slice-2.result.now) c.as_slice-releases.result.now z.rows.items) c.in_ok-rows.ensures c.rows_of-rows.ensures.rows))) in
    let needs : AllZip (IsOfList aims) own.releases.items made.aims.items =
    subst (λ (fs : List Fitted). AllZip (IsOfList aims) fs made.aims.items) c.as_slice-releases.ensures.value
    (subst (λ (ls : List (List (List PlaceNeed))). AllZip (IsOfList ls) c.as_slice-releases.result.now made.aims.items) c.as_slice-3.ensures.value
    (subst (λ (z : OwnRows). AllZip (IsOfList c.as_slice-3.result.now) c.as_slice-releases.result.now z.aims.items) handed
    (told (λ z. AllZip (IsOfList c.as_slice-3.result.now) c.as_slice-releases.result.now z.aims.items) c.in_ok-rows.ensures c.rows_of-rows.ensures.aims))) in
    let lists : made.lists.items ≡ map list_in own.releases.items =
    subst (λ (fs : List Fitted). made.lists.items ≡ map list_in fs) c.as_slice-releases.ensures.value
    (subst (λ (z : OwnRows). z.lists.items ≡ map list_in c.as_slice-releases.result.now) handed
    (told (λ z. z.lists.items ≡ map list_in c.as_slice-releases.result.now) c.in_ok-rows.ensures c.rows_of-rows.ensures.lists)) in
    let p : Planned = record { node = c.in_ok-rows-2.node; base = found; name = name; rows = made.rows; aims = made.aims; lists = made.lists } in
    node_rows h names nodes truths own asked aims p
    (subst (λ (n : Node). HasName names n.name name) same c.requires.named)
    (subst (λ (n : Node). (f : NameFacts) × (slice_get names name ≡ Some f) × HasBaseAt names nodes n found f) same (base_found names nodes c.args.index.now c.args.planned.now found c.requires.index c.requires.named c.requires.based c.in_ok-base.ensures))
    (shared_grown _ _ _ _ own c.asked_lists.ensures.grown c.requires.shared)
    (subst (λ (n : Node). AllZip (AreAsked h n truths) own.lists.items asked) same (are g places.In_ok-asked-2))
    (aimed g places.In_ok-asked-2) rows needs lists
