use Rattle.ul_verify.specs.NodeIndexes.{edge_targets}
use Rattle.ul_verify.proofs.IndexFacts.{entry_put, entries_more, indexed, no_entries}
use Rattle.ul_verify.proofs.node_index.edges_index.Goals as goal

pub loop-place-init : goal.loop-place-init
loop-place-init c = no_entries edge_targets c.args.edges.now _ c.in_ok-entries.ensures.items

pub loop-place-preserved : goal.loop-place-preserved
loop-place-preserved c = entries_more edge_targets c.args.edges.now c.loop-place.place _ _ _ c.loop-place-test.true c.index-edges-place.is
    (entry_put _ _ _ _ _ c.in_ok-push.ensures.items c.edge_entry.ensures) c.loop-place.invariant

pub returns : goal.returns
returns c = indexed edge_targets c.args.edges.now c.loop-place.place _ c.of.result c.loop-place-test.false c.loop-place.invariant c.of.ensures.same c.of.ensures.sorted
