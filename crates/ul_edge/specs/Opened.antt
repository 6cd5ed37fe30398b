-- What is told of a file that was to be opened.
use Rattle.std.specs.Prelude.{◌≡◌, ◌≢◌, ℕ, ◌<◌, List, length, Option, Some, None, Result, Ok, Err, Vec, ⊤}
use Rattle.std.specs.declared.alloc.Global.{Global}
use Rattle.std.specs.declared.io.ErrorKind.{ErrorKind}
use Rattle.std.specs.declared.io.ErrorKind.TheVariants.{NotFound}
use Rattle.ul_files.specs.Causes.{next_count}
use Rattle.ul_files.specs.declared.files.ReadRefused.{ReadRefused}
use Rattle.ul_files.specs.declared.files.ReadRefused.TheVariants.{Failed, TooLong, NoMemory}

-- where it wasn't opened: it is absent exactly where it was not found, and every other error is a failure
pub record IsUnopened (kind : ErrorKind) (told : Result (Option (Vec ℕ Global)) ReadRefused) : Type 0 where
  pub absent : kind ≡ NotFound → told ≡ Ok None
  pub failed : kind ≢ NotFound → told ≡ Err Failed

-- an opened file isn't told as absent
abbrev pub IsThere : Result (Option (Vec ℕ Global)) ReadRefused → Type 0
IsThere (Ok None) = ⊥
IsThere (Ok (Some bytes)) = ⊤
IsThere (Err e) = ⊤

-- what is told of an opened file that has these bytes left: all of them, or that they are more than the limit; a failed
-- read and want of memory say nothing
abbrev pub IsToldOf : List ℕ → ℕ → Result (Option (Vec ℕ Global)) ReadRefused → Type 0
IsToldOf left limit (Ok None) = ⊥
IsToldOf left limit (Ok (Some bytes)) = bytes.items ≡ left
IsToldOf left limit (Err TooLong) = limit < length left
IsToldOf left limit (Err Failed) = ⊤
IsToldOf left limit (Err NoMemory) = ⊤

-- a failure is counted, and nothing else is
abbrev pub CountsFault : Result (Option (Vec ℕ Global)) ReadRefused → ℕ → ℕ → Type 0
CountsFault (Err Failed) before now = now ≡ next_count before
CountsFault (Err TooLong) before now = now ≡ before
CountsFault (Err NoMemory) before now = now ≡ before
CountsFault (Ok found) before now = now ≡ before
