-- Readings that follow one another.
use Rattle.std.specs.Prelude.{List, [], ◌∷◌, Option, Some, None, Result, Ok, Err}

infixl 10 ◌>>=◌
-- what stands first, and then the next, where each is right
abbrev pub ◌>>=◌ : {A B F : Type 0} → Result A F → (A → Result B F) → Result B F
(Ok x) >>= f = f x
(Err e) >>= f = Err e

-- what is there, or the fault
abbrev pub or_fault : {A F : Type 0} → F → Option A → Result A F
or_fault e (Some x) = Ok x
or_fault e None = Err e

-- what stands first, and then the next, where each is there
abbrev pub option_bind : {A B : Type 0} → Option A → (A → Option B) → Option B
option_bind None f = None
option_bind (Some x) f = f x

-- what each of a list reads as, where each has a reading
abbrev pub read_each : {A B : Type 0} → (A → Option B) → List A → Option (List B)
read_each f [] = Some []
read_each f (x ∷ xs) = option_bind (f x) (λ y. option_bind (read_each f xs) (λ ys. Some (y ∷ ys)))
