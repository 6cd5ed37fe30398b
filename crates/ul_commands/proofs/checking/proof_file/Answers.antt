use Rattle.std.proofs.Common.{ℕ, Vec, Global}
use Rattle.std.proofs.lemmas.Result.{err_from_is_err_and}
use Rattle.ul_inputs.specs.Inputs.{large_file}
use Rattle.ul_commands.specs.Checking.{proof_said}
use Rattle.ul_inputs.proofs.ForCallers.{goes_on, refuses}
use Rattle.ul_commands.proofs.checking.proof_file.Goals as goal

pub returns-in_err-bytes-clause-told : goal.returns-in_err-bytes-clause-told
returns-in_err-bytes-clause-told g c m a =
    let p = err_from_is_err_and c.from_residual.result c.from_residual.ensures.1 in
    rw (p.1, p.2) (refuses {T = Vec ℕ Global} (λ (v : Vec ℕ Global). v.items) (λ x. x) c.in_err-bytes.field-0.0 (large_file c.args.path.now m) (λ x. proof_said c.args.path.now x m) (c.in_err-bytes.ensures.told m a))

pub returns-clause-told : goal.returns-clause-told
returns-clause-told g c m a =
    goes_on (λ x. x) c.proof_in.result c.in_ok-bytes.bytes.items (large_file c.args.path.now m) (λ x. proof_said c.args.path.now x m)
    (c.in_ok-bytes.ensures.told m a) (rw (← c.deref.ensures.value) c.proof_in.ensures)
