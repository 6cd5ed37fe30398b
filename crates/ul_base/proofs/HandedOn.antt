-- What is known of values that were handed on by a call.
use Rattle.std.proofs.Common.{◌≡◌, Result, Ok, subst}
use Rattle.std.specs.Prelude.{IfOk}
use Rattle.std.specs.declared.alloc.AllocError.{AllocError}

-- what a call told of its answer holds of what it made
pub made_holds : {A : Type 0} (r : Result A AllocError) (v : A) (P : A → Type 0) → r ≡ Ok v → IfOk r P → P v
made_holds r v P e h = subst (λ (z : Result _ AllocError). IfOk z P) e h
