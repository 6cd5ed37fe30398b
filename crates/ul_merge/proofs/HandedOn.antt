-- What a call told of what was made, where it was handed on.
use Rattle.std.proofs.Common.{◌≡◌, Result, Ok, Err}
use Rattle.std.specs.Prelude.{IfOk}
use Rattle.std.specs.declared.alloc.AllocError.{AllocError}
use Rattle.ul_base.proofs.ForCallers.{made_holds}

pub if_handed : {A : Type 0} (made r : Result A AllocError) (P : A → Type 0) → IfOk r (λ x. made ≡ Ok x) → IfOk made P → IfOk r P
if_handed made (Ok x) P e p = made_holds made x P e p
if_handed made (Err e) P q p = tt

-- the same as `if_handed`, of what was handed on twice
pub twice_handed : {A : Type 0} (made between : Result A AllocError) (x : A) (P : A → Type 0) → between ≡ Ok x → IfOk between (λ y. made ≡ Ok y) → IfOk made P → P x
twice_handed made between x P e f p = made_holds made x P (made_holds between x (λ y. made ≡ Ok y) e f) p
