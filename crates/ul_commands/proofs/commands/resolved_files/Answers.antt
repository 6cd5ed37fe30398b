use Rattle.std.proofs.Common.{option_map}
use Rattle.std.proofs.lemmas.Result.{err_from_is_err_and}
use Rattle.ul_answers.specs.Views.{view as answer_view}
use Rattle.ul_inputs.specs.Inputs.{answer}
use Rattle.ul_inputs.specs.Resolutions.{resolution_in, view}
use Rattle.ul_inputs.proofs.ForCallers.{goes_on, refuses}
use Rattle.ul_commands.specs.Wanted.{IsAnswerFor}
use Rattle.ul_commands.proofs.Answering.{asked_answers, wanted_answers}
use Rattle.ul_commands.proofs.commands.resolved_files.Goals as goal

pub returns-in_err-resolution-clause-told : goal.returns-in_err-resolution-clause-told
returns-in_err-resolution-clause-told g c m a =
    let p = err_from_is_err_and c.from_residual.result c.from_residual.ensures.1 in
    asked_answers c.args.wanted c.args.project.now c.args.folder.now c.args.workers (option_map (λ p. p.now) c.args.old) m _
    (rw (p.1, p.2) (refuses view answer_view c.in_err-resolution.field-0.0
    (resolution_in c.args.project.now c.args.folder.now (option_map (λ p. p.now) c.args.old) m) (λ x. answer (IsAnswerFor c.args.wanted x) m)
    (c.in_err-resolution.ensures.told m a)))

pub returns-clause-told : goal.returns-clause-told
returns-clause-told g c m a =
    asked_answers c.args.wanted c.args.project.now c.args.folder.now c.args.workers (option_map (λ p. p.now) c.args.old) m _
    (goes_on answer_view c.answer-answer.result (view c.in_ok-resolution.resolution)
    (resolution_in c.args.project.now c.args.folder.now (option_map (λ p. p.now) c.args.old) m) (λ x. answer (IsAnswerFor c.args.wanted x) m)
    (c.in_ok-resolution.ensures.told m a) c.answer-answer.ensures)

pub returns-clause-answering : goal.returns-clause-answering
returns-clause-answering g c = wanted_answers c.args.wanted _ c.answer-answer.result c.answer-answer.ensures
