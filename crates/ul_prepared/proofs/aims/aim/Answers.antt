use Rattle.std.proofs.Common.{◌<◌, Some, length, sym, ap, subst, ◌∙◌}
use Rattle.std.proofs.lemmas.Option.{get_or_from_slice_get, slice_get_within, slice_get-get_or}
use Rattle.ul_prepared.specs.Aims.{HasNode}
use Rattle.ul_prepared.specs.Permitted.{IsPermitted}
use Rattle.ul_prepared.specs.declared.prepared.Planned.{Planned}
use Rattle.ul_prepared.proofs.Aiming.{aim_is}
use Rattle.ul_prepared.proofs.PlaceFacts.{node_found}
use Rattle.ul_prepared.proofs.aims.aim.Goals as goal
use Rattle.ul_prepared.proofs.aims.aim.Goals.{After-place_of-place}

-- the target stands at its place
found : (c : After-place_of-place) → HasNode c.args.names.now c.args.nodes.now c.args.target.now c.place_of-place.result
found c = node_found c.args.names.now c.args.nodes.now c.args.index.now c.args.target.now c.place_of-place.result c.requires.index c.place_of-place.ensures

pub place_of-place-requires : goal.place_of-place-requires
place_of-place-requires c = c.requires.index.places.whole c.args.target.now c.requires.target

pub bounds-nodes-place : goal.bounds-nodes-place
bounds-nodes-place c = let h = found (goal.at.bounds-nodes-place c).After-place_of-place in slice_get_within c.args.nodes.now c.place_of-place.result h.1.planned h.1.at

pub of-requires-clause-name : goal.of-requires-clause-name
of-requires-clause-name c = let h = found (goal.at.of-requires-clause-name c).After-place_of-place in
    subst (λ (q : Planned). q.name < length c.args.names.now) (sym (get_or_from_slice_get c.args.nodes.now c.place_of-place.result h.1.planned c.index-nodes-place.result h.1.at))
    (slice_get_within c.args.names.now h.1.planned.name h.0 h.1.facts)

pub of-requires-clause-rising : goal.of-requires-clause-rising
of-requires-clause-rising c = c.requires.rising

pub of-requires-clause-sets : goal.of-requires-clause-sets
of-requires-clause-sets c = c.requires.sets

pub returns-in_err-permitted-clause-sets : goal.returns-in_err-permitted-clause-sets
returns-in_err-permitted-clause-sets c = c.of.ensures.sets

pub returns-clause-sets : goal.returns-clause-sets
returns-clause-sets c = c.of.ensures.sets

pub returns-clause-aim : goal.returns-clause-aim
returns-clause-aim c = let h = found (goal.at.returns-clause-aim c).After-place_of-place in
    aim_is c.args.names.now c.args.nodes.now (record { node = c.place_of-place.result; permitted = c.in_ok-permitted.permitted }) (record { node = c.args.target.now; specifiers = c.args.specifiers.now }) c.index-nodes-place.result h
    (slice_get-get_or c.args.nodes.now c.place_of-place.result c.index-nodes-place.result (slice_get_within c.args.nodes.now c.place_of-place.result h.1.planned h.1.at) ∙ ap Some (sym c.index-nodes-place.is))
    (subst (λ (q : Planned). IsPermitted c.args.names.now q.name c.args.specifiers.now c.in_ok-permitted.permitted) (sym c.index-nodes-place.is) c.in_ok-permitted.ensures.set)
