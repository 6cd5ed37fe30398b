use Rattle.std.proofs.Common.{map, string_bytes}
use Rattle.std.proofs.lemmas.Result.{err_from_is_err_and}
use Rattle.ul_answers.specs.Views.{view}
use Rattle.ul_inputs.specs.Inputs.{answer}
use Rattle.ul_inputs.specs.Locks.{lock_at}
use Rattle.ul_inputs.proofs.ForCallers.{goes_on, refuses}
use Rattle.ul_lock_commands.specs.Exports.{IsExportAnswer}
use Rattle.ul_commands.proofs.Answering.{export_answers}
use Rattle.ul_commands.proofs.commands.export_files.Goals as goal

pub returns-in_err-lock-clause-told : goal.returns-in_err-lock-clause-told
returns-in_err-lock-clause-told g c m a =
    let p = err_from_is_err_and c.from_residual.result c.from_residual.ensures.1 in
    rw (p.1, p.2) (refuses (λ x. x) view c.in_err-lock.field-0.0 (lock_at c.args.lock.now m)
    (λ x. answer (IsExportAnswer x (map string_bytes c.args.extras.now)) m) (c.in_err-lock.ensures.told m a))

pub returns-clause-told : goal.returns-clause-told
returns-clause-told g c m a =
    goes_on view c.export-answer.result c.in_ok-lock.lock (lock_at c.args.lock.now m)
    (λ x. answer (IsExportAnswer x (map string_bytes c.args.extras.now)) m)
    (c.in_ok-lock.ensures.told m a) c.export-answer.ensures

pub returns-clause-answering : goal.returns-clause-answering
returns-clause-answering g c = export_answers c.in_ok-lock.lock (map string_bytes c.args.extras.now) c.export-answer.result c.export-answer.ensures
