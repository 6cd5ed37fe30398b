use Rattle.std.proofs.Common.{map}
use Rattle.ul_interner.proofs.ForCallers.{knows_itself, knows_then}
use Rattle.ul_merge.specs.Edges.{AreTruths}
use Rattle.ul_merge.proofs.EdgeFacts.{truths_more}
use Rattle.ul_merge.proofs.Walks.{of_all}
use Rattle.ul_merge.proofs.edges.truths_of.Goals as goal

pub returns-in_err-truth-clause-knows : goal.returns-in_err-truth-clause-knows
returns-in_err-truth-clause-knows g c = knows_then _ _ _ c.loop-one.invariant.knows c.in_err-truth.ensures.knows

pub returns-in_err-push-clause-knows : goal.returns-in_err-push-clause-knows
returns-in_err-push-clause-knows g c = knows_then _ _ _ c.loop-one.invariant.knows c.in_ok-truth.ensures.knows

pub loop-one-preserved : goal.loop-one-preserved
loop-one-preserved g c = record {
  knows = knows_then _ _ _ c.loop-one.invariant.knows c.in_ok-truth.ensures.knows;
  truths = truths_more (λ q. q.now) _ _ c.args.node.now c.args.requirements.now _ _ _ _ _ c.in_ok-truth.ensures.knows c.loop-one-test.true c.one-item.is c.loop-one.invariant.truths c.in_ok-truth.ensures.truth c.in_ok-push.ensures.items;
}

pub loop-one-init : goal.loop-one-init
loop-one-init g c = record {
  knows = knows_itself _;
  truths = c.in_ok-truths.ensures.items;
}

pub returns-clause-knows : goal.returns-clause-knows
returns-clause-knows g c = c.loop-one.invariant.knows

pub returns-clause-truths : goal.returns-clause-truths
returns-clause-truths g c = of_all (λ rs. AreTruths c.loop-one.algebra c.args.node.now (map (λ q. q.now) rs) c.loop-one.truths.items) c.args.requirements.now c.loop-one.one-index c.loop-one-test.false c.loop-one.invariant.truths
