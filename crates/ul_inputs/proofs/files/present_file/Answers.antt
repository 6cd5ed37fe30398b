use Rattle.std.proofs.Common.{ℕ, Option, Some, Vec, Global, inr, option_map, refl}
use Rattle.std.proofs.lemmas.Result.{err_from_is_err_and}
use Rattle.ul_inputs.specs.Inputs.{file_at, just, present}
use Rattle.ul_inputs.proofs.ForCallers.{refuses}
use Rattle.ul_inputs.proofs.files.present_file.Goals as goal

pub returns-in_err-bytes-clause-told : goal.returns-in_err-bytes-clause-told
returns-in_err-bytes-clause-told g c m a =
    let path = c.args.path.now in
    let p = err_from_is_err_and c.from_residual.result c.from_residual.ensures.1 in
    rw (p.1, p.2)
    (refuses {T = Option (Vec ℕ Global)} {U = Vec ℕ Global} (option_map (λ (v : Vec ℕ Global). v.items)) (λ (v : Vec ℕ Global). v.items) c.in_err-bytes.field-0.0
    (file_at c.args.name.now c.args.most path m) (λ x. just (present path x) m) (c.in_err-bytes.ensures.told m a))

pub returns-in-Some-clause-told : goal.returns-in-Some-clause-told
returns-in-Some-clause-told g c m a =
    inr (record { value = Some c.in-Some.bytes.items; gave = rw c.in-Some.is at (c.in_ok-bytes.ensures.told m a); answers = refl })
