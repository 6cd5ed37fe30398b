use Rattle.std.specs.Prelude.{slice_get}
use Rattle.std.proofs.Common.{◌≡◌, ◌<◌, ℕ, List, length, Some, arith, refl, subst, sym}
use Rattle.ul_problem.specs.declared.problem.NodeFacts.{NodeFacts}
use Rattle.ul_forks.proofs.Picking.{read_at, node_within, place_within, planned_within, version_within, pick_taken}
use Rattle.ul_forks.proofs.picks.chosen_at.Goals as goal

pub index-planned-requires : goal.index-planned-requires
index-planned-requires c =
    let pick : ℕ × ℕ = (c.args.node, c.args.version) in
    let places = c.args.placed.now.places.items in
    let read = read_at places c.args.node c.index-place.result.now _ (place_within c.args.prepared.now c.args.placed.now.problem places pick c.requires.places c.requires.pick) c.index-place.ensures in
    let l = planned_within c.args.prepared.now c.args.placed.now.problem places pick c.requires.places c.requires.pick c.index-place.result.now read in
    omega (arith, l, c.args.prepared.now.nodes.ok)

pub index-requires : goal.index-requires
index-requires c =
    let pick : ℕ × ℕ = (c.args.node, c.args.version) in
    let places = c.args.placed.now.places.items in
    let read = read_at places c.args.node c.index-place.result.now _ (place_within c.args.prepared.now c.args.placed.now.problem places pick c.requires.places c.requires.pick) c.index-place.ensures in
    let l = planned_within c.args.prepared.now c.args.placed.now.problem places pick c.requires.places c.requires.pick c.index-place.result.now read in
    let found = read_at c.args.prepared.now.nodes.items c.index-place.result.now c.index-planned.result.now _ l c.index-planned.ensures in
    let m = version_within c.args.prepared.now c.args.placed.now.problem places pick c.requires.places c.requires.pick c.index-place.result.now read c.index-planned.result.now found in
    omega (arith, m, c.index-planned.result.now.rows.ok)

pub returns : goal.returns
returns c =
    let pick : ℕ × ℕ = (c.args.node, c.args.version) in
    let p = c.args.placed.now.problem in
    let places = c.args.placed.now.places.items in
    let read = read_at places c.args.node c.index-place.result.now _ (place_within c.args.prepared.now p places pick c.requires.places c.requires.pick) c.index-place.ensures in
    let l = planned_within c.args.prepared.now p places pick c.requires.places c.requires.pick c.index-place.result.now read in
    let found = read_at c.args.prepared.now.nodes.items c.index-place.result.now c.index-planned.result.now _ l c.index-planned.ensures in
    let m = version_within c.args.prepared.now p places pick c.requires.places c.requires.pick c.index-place.result.now read c.index-planned.result.now found in
    let at : slice_get p.nodes c.args.node ≡ Some c.index-nodes-node.result = subst (λ (fs : List NodeFacts). slice_get fs c.args.node ≡ Some c.index-nodes-node.result) c.nodes.ensures.value
    (read_at c.nodes.result.now c.args.node c.index-nodes-node.result _ (subst (λ (fs : List NodeFacts). c.args.node < length fs) (sym c.nodes.ensures.value) (node_within c.args.prepared.now p places pick c.requires.places c.requires.pick)) c.index-nodes-node.is) in
    pick_taken c.args.prepared.now p places pick c.requires.places c.requires.pick c.index-place.result.now read c.index-planned.result.now found c.index-nodes-node.result _ at
    (read_at c.index-planned.result.now.rows.items c.args.version c.index.result.now _ m c.index.ensures) refl
