use Rattle.std.proofs.Common.{arith, sym, ◌∙◌}
use Rattle.std.proofs.lemmas.Grind.{common_steps}
use Rattle.ul_report_judge.proofs.Front.{front_ended, front_next, front_stopped}
use Rattle.ul_report_judge.proofs.naming.front.Goals as goal

pub loop-text-preserved : goal.loop-text-preserved
loop-text-preserved c =
    rw c.in_ok-push-in-Some.ensures.items (front_next c.args.problem.now c.args.texts.now c.loop-text.steps.items c.loop-text.text-index c.text-item.result c.in-Some.step
    (grind (arith, common_steps)) c.text-item.is (sym c.in_ok-step.ensures ∙ c.in-Some.is) c.loop-text.invariant)

pub returns-in-None : goal.returns-in-None
returns-in-None c =
    front_stopped c.args.problem.now c.args.texts.now c.loop-text.steps.items c.loop-text.text-index c.text-item.result
    (grind (arith, common_steps)) c.text-item.is (sym c.in_ok-step.ensures ∙ c.in-None.is) c.loop-text.invariant

pub returns : goal.returns
returns c = front_ended c.args.problem.now c.args.texts.now c.loop-text.steps.items c.loop-text.text-index (grind (arith, common_steps)) c.loop-text.invariant
