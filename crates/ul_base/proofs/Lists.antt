-- Facts on lists and options.
use Rattle.std.proofs.Common.{◌≡◌, ℕ, zero, suc, ◌<◌, List, [], ◌∷◌, map, length, get_or, true, Option, Some, Contains, refl, sym, ap, ◌∙◌, arith, bytes_eq}
use Rattle.std.proofs.lemmas.Slice.Eq.{bytes_eq-Decides}

-- an option that is both has one value
pub some_is : {A : Type 0} {o : Option A} {a b : A} → o ≡ Some a → o ≡ Some b → a ≡ b
some_is p q = cc

-- an element of a mapped list
pub at_map : {A B : Type 0} (f : A → B) (xs : List A) (k : ℕ) (x : A) → get_or (map f xs) k (f x) ≡ f (get_or xs k x)
at_map f [] k x = refl
at_map f (y ∷ ys) zero x = refl
at_map f (y ∷ ys) (suc k) x = at_map f ys k x

-- a mapped list is as long
pub long_map : {A B : Type 0} (f : A → B) (xs : List A) → length (map f xs) ≡ length xs
long_map f [] = refl
long_map f (y ∷ ys) = ap suc (long_map f ys)

-- the image of an element stands in the mapped list
pub contains_map : {A B : Type 0} (f : A → B) (xs : List A) (x : A) → Contains xs x → Contains (map f xs) (f x)
contains_map f xs x h = (h.0, rw long_map h.1, at_map f xs h.0 x ∙ ap f h.2)

-- the first element stands in the list
pub contains_first : {A : Type 0} (x : A) (xs : List A) → Contains (x ∷ xs) x
contains_first x xs = (0, omega arith, refl)

-- what stands in the rest stands in the list
pub contains_later : {A : Type 0} (y : A) (xs : List A) (x : A) → Contains xs x → Contains (y ∷ xs) x
contains_later y xs x h = (suc h.0, omega (arith, h.1), h.2)

pub one_at : {A : Type 0} (y x : A) (k : ℕ) → k < 1 → get_or (y ∷ []) k x ≡ x → x ≡ y
one_at y x zero h e = sym e
one_at y x (suc k) h e = absurd (omega arith)

-- a list of one has no other element
pub only_one : {A : Type 0} (y x : A) → Contains (y ∷ []) x → x ≡ y
only_one y x h = one_at y x h.0 h.1 h.2

-- nothing stands in the empty list
pub none_in : {A : Type 0} (x : A) → Contains {X = A} [] x → ⊥
none_in x h = omega (arith, h.1)

-- a text equals itself, as the test of bytes answers
pub bytes_eq-same : (a : List ℕ) → bytes_eq a a ≡ true
bytes_eq-same a = (bytes_eq-Decides a a).1 refl
