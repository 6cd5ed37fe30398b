use Rattle.std.specs.Prelude.{slice_get, flat_map}
use Rattle.std.specs.Vec.{with_item}
use Rattle.std.proofs.Common.{◌≡◌, ◌<◌, List, length, Some, sym, subst, refl, arith}
use Rattle.ul_region.specs.Truths.{region_at, DiagramMark}
use Rattle.ul_placing.specs.Aims.{AreRowsOf}
use Rattle.ul_placing.specs.Reach.{MarksPlaces, targets_of}
use Rattle.ul_placing.specs.Runs.{rows_of}
use Rattle.ul_placing.specs.declared.aims.Run.{Run}
use Rattle.ul_placing.proofs.Lists.{read_there, read_by}
use Rattle.ul_placing.proofs.Shared.{planned_read, rows_right}
use Rattle.ul_placing.proofs.Reaching.{reach_next, queued_node, queued_aims}
use Rattle.ul_placing.proofs.reach.look_at.Goals as goal

pub index-requires-2 : goal.index-requires-2
index-requires-2 c =
    let l : c.index.result.now < length c.args.prepared.now.nodes.items = queued_node (region_at c.args.place.now.region.now) c.args.prepared.now c.args.step c.index.result.now c.args.reach.now c.requires.reach
    (read_by c.args.reach.now.queue.items c.args.step c.index.result.now _ c.requires.step c.index.ensures) in
    omega (arith, l, c.args.prepared.now.nodes.ok)

pub index_mut-requires : goal.index_mut-requires
index_mut-requires c =
    let l : c.index.result.now < length c.args.reach.now.aims.items = queued_aims (region_at c.args.place.now.region.now) c.args.prepared.now c.args.step c.index.result.now c.args.reach.now c.requires.reach
    (read_by c.args.reach.now.queue.items c.args.step c.index.result.now _ c.requires.step c.index.ensures) in
    omega (arith, l, c.args.reach.now.aims.ok)

pub node_aims-requires-clause-rows : goal.node_aims-requires-clause-rows
node_aims-requires-clause-rows c =
    let l : c.index.result.now < length c.args.prepared.now.nodes.items = queued_node (region_at c.args.place.now.region.now) c.args.prepared.now c.args.step c.index.result.now c.args.reach.now c.requires.reach
    (read_by c.args.reach.now.queue.items c.args.step c.index.result.now _ c.requires.step c.index.ensures) in
    subst (λ (z : List DiagramMark). AreRowsOf c.args.algebra.now z c.index-2.result.now) (sym c.requires.truths)
    (rows_right c.args.algebra.now c.args.prepared.now c.index-2.result.now (planned_read c.args.algebra.now c.args.prepared.now c.index.result.now c.index-2.result.now c.requires.prepared l c.index-2.ensures))

pub node_aims-requires-clause-shared : goal.node_aims-requires-clause-shared
node_aims-requires-clause-shared c =
    let l : c.index.result.now < length c.args.prepared.now.nodes.items = queued_node (region_at c.args.place.now.region.now) c.args.prepared.now c.args.step c.index.result.now c.args.reach.now c.requires.reach
    (read_by c.args.reach.now.queue.items c.args.step c.index.result.now _ c.requires.step c.index.ensures) in
    (planned_read c.args.algebra.now c.args.prepared.now c.index.result.now c.index-2.result.now c.requires.prepared l c.index-2.ensures).shared

pub returns : goal.returns
returns c =
    let next : slice_get c.args.reach.now.queue.items c.args.step ≡ Some c.index.result.now = read_by c.args.reach.now.queue.items c.args.step c.index.result.now _ c.requires.step c.index.ensures in
    let l : c.index.result.now < length c.args.prepared.now.nodes.items = queued_node (region_at c.args.place.now.region.now) c.args.prepared.now c.args.step c.index.result.now c.args.reach.now c.requires.reach next in
    reach_next c.args.algebra.now (region_at c.args.place.now.region.now) c.args.prepared.now c.args.step c.index.result.now c.args.reach.now
    (record { marks = c.mark_runs.new.marks; queue = c.mark_runs.new.queue; aims = with_item c.args.reach.now.aims c.index.result.now (Some c.in_ok-aims.aims) })
    c.index-2.result.now c.in_ok-aims.aims c.requires.prepared c.requires.reach c.requires.step next (read_there c.args.prepared.now.nodes.items c.index.result.now c.index-2.result.now l c.index-2.ensures)
    c.in_ok-aims.ensures
    (subst (λ (z : List Run). MarksPlaces (flat_map targets_of (rows_of z)) c.args.reach.now.marks.items c.args.reach.now.queue.items c.mark_runs.new.marks.items c.mark_runs.new.queue.items) c.as_slice.ensures.value c.in_ok-mark_runs.ensures)
    refl
