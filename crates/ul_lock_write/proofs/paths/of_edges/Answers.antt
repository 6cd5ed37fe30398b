use Rattle.std.proofs.Common.{sym, ◌∙◌}
use Rattle.ul_lock_write.specs.Markers.{edge_marker}
use Rattle.ul_lock_write.proofs.OverPaths.{over_one, over_here, over_on, over_end}
use Rattle.ul_lock_write.proofs.paths.of_edges.Goals as goal

pub returns-in-Some : goal.returns-in-Some
returns-in-Some c = over_here edge_marker c.args.edges.now c.loop-edge.edge-index c.edge-item.result _ c.in-Some.count c.loop-edge-test.true c.edge-item.is (over_one _ ∙ sym c.in-Some.ensures) c.loop-edge.invariant

pub loop-edge-preserved : goal.loop-edge-preserved
loop-edge-preserved c = over_on edge_marker c.args.edges.now c.loop-edge.edge-index c.edge-item.result _ c.loop-edge-test.true c.edge-item.is (over_one _ ∙ sym c.in-None.ensures) c.loop-edge.invariant

pub returns : goal.returns
returns c = over_end edge_marker c.args.edges.now c.loop-edge.edge-index _ c.loop-edge-test.false c.loop-edge.invariant
