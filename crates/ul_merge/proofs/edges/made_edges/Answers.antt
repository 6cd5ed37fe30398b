use Rattle.std.proofs.Common.{subst, sym, take}
use Rattle.ul_interner.proofs.ForCallers.{knows_itself, knows_then}
use Rattle.ul_region.proofs.ForCallers.{still}
use Rattle.ul_algebra.specs.Spelled.{tree_of}
use Rattle.ul_lock_write.specs.Markers.{edge_marker}
use Rattle.ul_merge.specs.Edges.{MakesEdge}
use Rattle.ul_merge.specs.Made.{AreMade}
use Rattle.ul_merge.specs.Over.{ItemsOrOver}
use Rattle.ul_base.proofs.ForCallers.{made_holds}
use Rattle.ul_merge.proofs.EdgeFacts.{regions_still}
use Rattle.ul_merge.proofs.OverFacts.{all_over, made_over, none_over}
use Rattle.ul_merge.proofs.edges.made_edges.Goals as goal

pub edge_of-edge-requires-clause-supported : goal.edge_of-edge-requires-clause-supported
edge_of-edge-requires-clause-supported g c = still _ _ _ c.loop-group.invariant.knows c.requires.supported

pub edge_of-edge-requires-clause-regions : goal.edge_of-edge-requires-clause-regions
edge_of-edge-requires-clause-regions g c = regions_still _ _ _ c.loop-group.invariant.knows c.requires.regions

pub edge_of-edge-requires-clause-truths : goal.edge_of-edge-requires-clause-truths
edge_of-edge-requires-clause-truths g c = regions_still _ _ _ c.loop-group.invariant.knows c.requires.truths

pub returns-in_err-kept-clause-knows : goal.returns-in_err-kept-clause-knows
returns-in_err-kept-clause-knows g c = knows_then _ _ _ c.loop-group.invariant.knows c.edge_of-edge.ensures.knows

pub returns-in_err-edges-clause-knows : goal.returns-in_err-edges-clause-knows
returns-in_err-edges-clause-knows g c = knows_then _ _ _ c.loop-group.invariant.knows c.edge_of-edge.ensures.knows

pub loop-group-preserved : goal.loop-group-preserved
loop-group-preserved g c =
    let Makes = MakesEdge c.args.regions.now c.args.truths.now (tree_of c.args.supported.now) in
    let row = subst (ItemsOrOver edge_marker (AreMade Makes (take c.loop-group.group-index c.args.groups.now))) (sym c.in_ok-kept.ensures.0) c.loop-group.invariant.made in
    record {
      knows = knows_then _ _ _ c.loop-group.invariant.knows c.edge_of-edge.ensures.knows;
      made = made_over Makes edge_marker _ _ _ _ _ _ c.loop-group-test.true c.group-item.is row (made_holds c.edge_of-edge.result c.in_ok-kept.edge _ c.in_ok-kept.ensures.1 c.edge_of-edge.ensures.edge) c.in_ok-edges.ensures;
    }

pub loop-group-init : goal.loop-group-init
loop-group-init g c = record {
  knows = knows_itself _;
  made = none_over (MakesEdge c.args.regions.now c.args.truths.now (tree_of c.args.supported.now)) edge_marker _ c.new.ensures.items;
}

pub returns-clause-knows : goal.returns-clause-knows
returns-clause-knows g c = c.loop-group.invariant.knows

pub returns-clause-edges : goal.returns-clause-edges
returns-clause-edges g c = all_over (MakesEdge c.args.regions.now c.args.truths.now (tree_of c.args.supported.now)) edge_marker c.args.groups.now c.loop-group.group-index _ c.loop-group-test.false c.loop-group.invariant.made

pub edge_of-edge-requires-clause-within : goal.edge_of-edge-requires-clause-within
edge_of-edge-requires-clause-within g c = c.requires.within
