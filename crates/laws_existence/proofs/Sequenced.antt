-- Inputs, one after another, are given where each is.
use Rattle.std.proofs.Common.{ℕ, List, Result, Ok, Err, refl, inl, inr}
use Rattle.ul_files.specs.Files.{FileMap, content}
use Rattle.ul_inputs.specs.Inputs.{◌>>=◌, Input, Said, bounded, file_at, just, present, present_file, said_on}
use Rattle.ul_inputs.specs.Refused.{Refused}
use Rattle.laws_existence.specs.Inputs.{IsGiven}

-- what is said has a result
abbrev pub SaysSome : {A : Type 0} → Said A → Type 0
SaysSome {A} said = (r : Result A Refused) × said.gives r

by_first : {A B : Type 0} (first : Said A) (next : A → Said B) (r : Result A Refused) → first.gives r
    → ((x : A) → first.gives (Ok x) → SaysSome (next x)) → SaysSome (said_on first next)
by_first first next (Ok x) gave on =
    let rest = on x gave in (rest.0, inr (record { value = x; gave = gave; answers = rest.1 }))
by_first first next (Err e) gave on = (Err e, inl gave)

-- the first is given, and so is the next on each value that the first gives
pub given_then : {A B : Type 0} (first : Input A) (next : A → Input B) (m : FileMap) → IsGiven first m
    → ((x : A) → (first m).gives (Ok x) → IsGiven (next x) m) → IsGiven (first >>= next) m
given_then first next m had on = by_first (first m) (λ x. next x m) had.0 had.1 on

-- exactly this
pub given_just : {A : Type 0} (r : Result A Refused) (m : FileMap) → IsGiven (just r) m
given_just r m = (r, refl)

-- the bytes of a file that has to be there
pub given_file : (name : List ℕ) (most : ℕ) (path : List ℕ) (m : FileMap) → IsGiven (present_file name most path) m
given_file name most path m =
    given_then (file_at name most path) (λ found. just (present path found)) m
    (bounded name most (content m path), refl)
    (λ found gave. given_just (present path found) m)
