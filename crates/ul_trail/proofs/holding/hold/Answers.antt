use Rattle.std.proofs.Common.{refl, length, ◌∙◌}
use Rattle.std.proofs.lemmas.Option.{slice_get_read}
use Rattle.ul_trail.proofs.Rewinding.{held_nodes, held_next}
use Rattle.ul_trail.proofs.holding.hold.Goals as goal

pub push-requires-clause-nodes : goal.push-requires-clause-nodes
push-requires-clause-nodes c = held_nodes c.args.problem.now c.in_ok-incompat.incompat c.loop-step.watching.rows.items (c.loop-step.invariant.width ∙ c.requires.width) c.in_ok-incompat.ensures.fits

pub loop-step-preserved : goal.loop-step-preserved
loop-step-preserved c = record {
  watched = c.in_ok-push.ensures.watched;
  width = c.in_ok-push.ensures.width ∙ c.loop-step.invariant.width;
  terms = held_next c.args.problem.now c.args.watching.now.terms.items c.loop-step.watching.terms.items c.push.new.self.terms.items c.args.steps.now c.loop-step.step-index c.step-item.result c.in_ok-incompat.incompat
      (slice_get_read c.args.steps.now (length c.args.steps.now) c.loop-step.step-index c.step-item.result refl c.loop-step-test.true c.step-item.is) c.loop-step.invariant.terms c.in_ok-incompat.ensures.value c.in_ok-push.ensures.terms;
}
