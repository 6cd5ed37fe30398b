use Rattle.std.proofs.Common.{Ok, Vec, Global}
use Rattle.std.proofs.lemmas.Result.{err_from_is_err_and}
use Rattle.ul_inputs.specs.Inputs.{just}
use Rattle.ul_inputs.specs.Locks.{Kept, kept_of, lock_at}
use Rattle.ul_inputs.proofs.ForCallers.{goes_on, refuses}
use Rattle.ul_inputs.proofs.locks.kept_at.Goals as goal

pub returns-in_err-lock-clause-told : goal.returns-in_err-lock-clause-told
returns-in_err-lock-clause-told g c m a =
    let p = err_from_is_err_and c.from_residual.result c.from_residual.ensures.1 in
    rw (p.1, p.2)
    (refuses (λ x. x) (λ (k : Vec Kept Global). k.items) c.in_err-lock.field-0.0 (lock_at c.args.path.now m) (λ l. just (Ok (kept_of l)) m)
    (c.in_err-lock.ensures.told m a))

pub returns-clause-told : goal.returns-clause-told
returns-clause-told g c m a =
    goes_on (λ (k : Vec Kept Global). k.items) c.kept-kept.result c.in_ok-lock.lock (lock_at c.args.path.now m) (λ l. just (Ok (kept_of l)) m)
    (c.in_ok-lock.ensures.told m a) c.kept-kept.ensures
