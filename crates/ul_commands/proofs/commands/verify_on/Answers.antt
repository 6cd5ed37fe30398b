use Rattle.ul_answers.specs.Views.{view}
use Rattle.ul_inputs.specs.Locks.{lock_at}
use Rattle.ul_commands.specs.Verifying.{verify_with}
use Rattle.ul_inputs.proofs.ForCallers.{goes_on, refuses}
use Rattle.ul_commands.proofs.commands.verify_on.Goals as goal

pub returns-in-Ok-clause-told : goal.returns-in-Ok-clause-told
returns-in-Ok-clause-told g c m a =
    goes_on view c.verify_with-answer.result c.in-Ok.lock (lock_at c.args.lock.now m) (λ x. verify_with c.args.folder.now c.args.project x m)
    (c.in-Ok.ensures.told m (c.verify_with-answer.ensures.grown m a)) (c.verify_with-answer.ensures.told m a)

pub returns-in-Err-clause-told : goal.returns-in-Err-clause-told
returns-in-Err-clause-told g c m a =
    refuses (λ x. x) view c.in-Err.refusal (lock_at c.args.lock.now m) (λ x. verify_with c.args.folder.now c.args.project x m)
    (c.in-Err.ensures.told m a)

pub returns-in-Ok-clause-grown : goal.returns-in-Ok-clause-grown
returns-in-Ok-clause-grown g c m a = c.in-Ok.ensures.grown m (c.verify_with-answer.ensures.grown m a)
