use Rattle.ul_interner.proofs.ForCallers.{knows_itself, knows_then}
use Rattle.ul_canonical.proofs.Grown.{all_made, none_made, one_made}
use Rattle.ul_canonical.proofs.Plain.{plain_at}
use Rattle.ul_canonical.proofs.diagrams.diagrams_of.Goals as goal

pub loop-marker-init : goal.loop-marker-init
loop-marker-init g c = record { knows = knows_itself _; made = none_made _ c.args.markers.now c.new-diagrams.result.items c.new-diagrams.ensures.items }

pub diagram_of-requires : goal.diagram_of-requires
diagram_of-requires g c = (plain_at c.args.markers.now c.loop-marker.marker-index c.marker-item.result c.requires c.loop-marker-test.true c.marker-item.is).spelled

pub loop-marker-preserved : goal.loop-marker-preserved
loop-marker-preserved g c = record {
  knows = knows_then _ _ _ c.loop-marker.invariant.knows c.in_ok-diagram.ensures.knows;
  made = one_made _ _ c.args.markers.now c.loop-marker.marker-index c.marker-item.result c.loop-marker.diagrams.items _ c.in_ok-diagram.diagram c.loop-marker-test.true c.marker-item.is c.in_ok-diagram.ensures.knows
      (plain_at c.args.markers.now c.loop-marker.marker-index c.marker-item.result c.requires c.loop-marker-test.true c.marker-item.is) c.loop-marker.invariant.made c.in_ok-diagram.ensures.diagram c.in_ok-diagram.ensures.truth c.in_ok-push.ensures.items;
}

pub returns-in_err-diagram-clause-knows : goal.returns-in_err-diagram-clause-knows
returns-in_err-diagram-clause-knows g c = knows_then _ _ _ c.loop-marker.invariant.knows c.in_err-diagram.ensures.knows

pub returns-in_err-push-clause-knows : goal.returns-in_err-push-clause-knows
returns-in_err-push-clause-knows g c = knows_then _ _ _ c.loop-marker.invariant.knows c.in_ok-diagram.ensures.knows

pub returns-clause-diagrams : goal.returns-clause-diagrams
returns-clause-diagrams g c = all_made _ c.args.markers.now c.loop-marker.marker-index _ c.loop-marker-test.false c.loop-marker.invariant.made
