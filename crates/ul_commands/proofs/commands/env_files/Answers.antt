use Rattle.std.proofs.Common.{map, string_bytes}
use Rattle.std.proofs.lemmas.Result.{err_from_is_err_and}
use Rattle.ul_answers.specs.Views.{view}
use Rattle.ul_inputs.specs.Locks.{lock_at}
use Rattle.ul_lock_commands.specs.Environments.{env_on}
use Rattle.ul_inputs.proofs.ForCallers.{goes_on, refuses}
use Rattle.ul_commands.proofs.commands.env_files.Goals as goal

pub returns-in_err-lock-clause-told : goal.returns-in_err-lock-clause-told
returns-in_err-lock-clause-told g c m a =
    let p = err_from_is_err_and c.from_residual.result c.from_residual.ensures.1 in
    rw (p.1, p.2) (refuses (λ x. x) view c.in_err-lock.field-0.0 (lock_at c.args.lock.now m)
    (λ x. env_on c.args.machine.now (map string_bytes c.args.extras.now) x m) (c.in_err-lock.ensures.told m a))

pub returns-clause-told : goal.returns-clause-told
returns-clause-told g c m a =
    goes_on view c.env_on-answer.result c.in_ok-lock.lock (lock_at c.args.lock.now m) (λ x. env_on c.args.machine.now (map string_bytes c.args.extras.now) x m)
    (c.in_ok-lock.ensures.told m (c.env_on-answer.ensures.grown m a)) (c.env_on-answer.ensures.told m a)

pub returns-clause-grown : goal.returns-clause-grown
returns-clause-grown g c m a = c.in_ok-lock.ensures.grown m (c.env_on-answer.ensures.grown m a)
