-- What stays of values that are handed on by a call.
use Rattle.std.specs.Prelude.{List, [], ◌∷◌, ◌++◌, ◌≡◌, Result, Ok}
use Rattle.std.specs.declared.alloc.AllocError.{AllocError}

-- a row has one item more, which was made
abbrev pub HasOneMore : {A : Type 0} → List A → Result A AllocError → List A → Type 0
HasOneMore {A = A} before made after = (one : A) × (made ≡ Ok one) × (after ≡ before ++ one ∷ [])
