use Rattle.std.proofs.Common.{map, string_bytes}
use Rattle.std.proofs.lemmas.Result.{err_from_is_err_and}
use Rattle.ul_answers.specs.Views.{view}
use Rattle.ul_inputs.specs.Inputs.{answer}
use Rattle.ul_inputs.specs.Machines.{machine_at}
use Rattle.ul_inputs.proofs.ForCallers.{goes_on, refuses}
use Rattle.ul_lock_commands.specs.Environments.{IsEnvAnswer}
use Rattle.ul_commands.proofs.Answering.{env_answers}
use Rattle.ul_commands.proofs.commands.env_on.Goals as goal

pub returns-in_err-machine-clause-told : goal.returns-in_err-machine-clause-told
returns-in_err-machine-clause-told g c m a =
    let p = err_from_is_err_and c.from_residual.result c.from_residual.ensures.1 in
    rw (p.1, p.2) (refuses (λ x. x) view c.in_err-machine.field-0.0 (machine_at c.args.machine.now m)
    (λ x. answer (IsEnvAnswer c.args.lock.now x (map string_bytes c.args.extras.now)) m) (c.in_err-machine.ensures.told m a))

pub returns-clause-told : goal.returns-clause-told
returns-clause-told g c m a =
    goes_on view c.env-answer.result c.in_ok-machine.machine (machine_at c.args.machine.now m)
    (λ x. answer (IsEnvAnswer c.args.lock.now x (map string_bytes c.args.extras.now)) m)
    (c.in_ok-machine.ensures.told m a) c.env-answer.ensures

pub returns-clause-answering : goal.returns-clause-answering
returns-clause-answering g c = env_answers c.args.lock.now c.in_ok-machine.machine (map string_bytes c.args.extras.now) c.env-answer.result c.env-answer.ensures
