-- Readings that follow one another, and lists that are read one by one.
use Rattle.std.specs.Prelude.{ℕ, ◌+◌, List, [], ◌∷◌, Option, Some, None, Result, Ok, Err}

infixl 10 ◌>>=◌
-- what stands first, and then the next, where each is right
abbrev pub ◌>>=◌ : {A B F : Type 0} → Result A F → (A → Result B F) → Result B F
(Ok x) >>= f = f x
(Err e) >>= f = Err e

-- what is there, or the fault
abbrev pub or_fault : {A F : Type 0} → F → Option A → Result A F
or_fault e (Some x) = Ok x
or_fault e None = Err e

-- what each element of a list is read as, in order, each with its number; the first fault answers
unfoldable pub each_from : {A B F : Type 0} → (ℕ → A → Result B F) → ℕ → List A → Result (List B) F
each_from read i [] = Ok []
each_from read i (x ∷ xs) = do
  y ← read i x
  ys ← each_from read (i + 1) xs
  Ok (y ∷ ys)
