use Rattle.std.proofs.Common.{[]}
use Rattle.std.proofs.lemmas.Result.{err_from_is_err_and}
use Rattle.ul_answers.specs.Views.{view as answer_view}
use Rattle.ul_inputs.specs.Inputs.{answer}
use Rattle.ul_inputs.specs.Resolutions.{resolution_with, view}
use Rattle.ul_inputs.proofs.ForCallers.{goes_on, refuses}
use Rattle.ul_commands.specs.Checking.{IsCheckAnswer}
use Rattle.ul_commands.proofs.Answering.{check_answers}
use Rattle.ul_commands.proofs.commands.check_with.Goals as goal

pub returns-in_err-resolution-clause-told : goal.returns-in_err-resolution-clause-told
returns-in_err-resolution-clause-told g c m a =
    let p = err_from_is_err_and c.from_residual.result c.from_residual.ensures.1 in
    let told = c.in_err-resolution.ensures.told m a in
    rw (p.1, p.2) (refuses view answer_view c.in_err-resolution.field-0.0
    (resolution_with c.args.folder.now c.args.project [] m) (λ x. answer (IsCheckAnswer x c.args.proof.now) m)
    (rw c.new.ensures.items at told))

pub returns-clause-told : goal.returns-clause-told
returns-clause-told g c m a =
    let told = c.in_ok-resolution.ensures.told m a in
    goes_on answer_view c.check-answer.result (view c.in_ok-resolution.resolution)
    (resolution_with c.args.folder.now c.args.project [] m) (λ x. answer (IsCheckAnswer x c.args.proof.now) m)
    (rw c.new.ensures.items at told) c.check-answer.ensures

pub returns-clause-answering : goal.returns-clause-answering
returns-clause-answering g c = check_answers _ _ c.check-answer.result c.check-answer.ensures
