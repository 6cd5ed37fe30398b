use Rattle.std.proofs.Common.{Some, ap, subst, sym, ◌∙◌}
use Rattle.std.specs.Option.{option_map}
use Rattle.ul_algebra.specs.Spelled.{tree_of}
use Rattle.ul_lock.specs.declared.parts.Edge.{Edge}
use Rattle.ul_lock_write.specs.Markers.{edge_marker}
use Rattle.ul_lock_write.proofs.ForCallers.{over_none}
use Rattle.ul_region.specs.Truths.{region_at}
use Rattle.ul_merge.specs.Edges.{IsEdgeBy}
use Rattle.ul_merge.specs.Over.{OrOver, markers_in}
use Rattle.ul_merge.proofs.MadeEdges.{edge_over, failed, meets_there, no_world}
use Rattle.ul_merge.proofs.edges.edge_to.Goals as goal

pub returns-then-is_false-clause-edge : goal.returns-then-is_false-clause-edge
returns-then-is_false-clause-edge g c = (no_world c.args.truth.now (c.is_false.ensures.0 c.if-is_false.true), over_none)

pub simplified-requires-clause-meet : goal.simplified-requires-clause-meet
simplified-requires-clause-meet g c = meets_there _ _ _ c.requires.truth (failed _ c.if-is_false.false c.is_false.ensures) c.requires.within

pub returns-clause-edge : goal.returns-clause-edge
returns-clause-edge g c =
    let n = c.args.target.now in
    let v = c.args.version.now in
    let s = tree_of c.args.supported.now in
    subst (OrOver (markers_in edge_marker) (IsEdgeBy n v (region_at c.args.truth.now) s)) (sym (c.as_item.ensures ∙ ap (option_map (λ (e : Edge). Some e)) c.in_ok-edge.ensures))
    (edge_over _ c.args.truth.now s n v c.in_ok-marker.marker c.requires.truth (failed _ c.if-is_false.false c.is_false.ensures) c.in_ok-marker.ensures.rule)
