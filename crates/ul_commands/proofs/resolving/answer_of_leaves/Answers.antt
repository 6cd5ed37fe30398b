use Rattle.std.proofs.Common.{IfOk, Ok, subst, sym}
use Rattle.ul_answers.specs.Views.{view as answer_view}
use Rattle.ul_inputs.specs.Resolutions.{view}
use Rattle.ul_commands.specs.Wanted.{IsAnswerFor}
use Rattle.ul_commands.proofs.ForkAnswers.{none_refused_answer}
use Rattle.ul_commands.proofs.resolving.answer_of_leaves.Goals as goal

pub returns-in-Lock : goal.returns-in-Lock
returns-in-Lock g c =
    subst (λ w. IfOk c.lock_answer.result (λ a. IsAnswerFor w (view c.args.resolution.now) (Ok (answer_view a)))) (sym c.in-Lock.is) c.lock_answer.ensures

pub returns-in-Reason : goal.returns-in-Reason
returns-in-Reason g c =
    subst (λ w. IsAnswerFor w (view c.args.resolution.now) (Ok _)) (sym c.in-Reason.is)
    (none_refused_answer (view c.args.resolution.now) c.args.algebra c.args.leaves.now c.requires.forks)
