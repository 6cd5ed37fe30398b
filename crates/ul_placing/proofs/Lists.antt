-- Lists, element by element.
use Rattle.std.specs.Prelude.{Contains, flat_map, slice_get}
use Rattle.std.proofs.Common.{◌≡◌, ◌<◌, ◌+◌, ◌⊎◌, ℕ, zero, suc, List, [], ◌∷◌, ◌++◌, length, get_or, map, take, drop, Some, refl, sym, ap, ◌∙◌, inl, inr, ⊎_elim, arith}
use Rattle.std.proofs.lemmas.List.{take_more, map-append, append-nil}
use Rattle.std.proofs.lemmas.Grind.{flat_map-append}
use Rattle.std.proofs.Math.Seq.{drop-cons}
use Rattle.std.proofs.lemmas.Option.{none-some, slice_get_within, slice_get-get_or, get_or_from_slice_get}

-- what stands at a place stands there when more follows
pub kept_at : {A : Type 0} (xs ys : List A) (j : ℕ) (x : A) → slice_get xs j ≡ Some x → slice_get (xs ++ ys) j ≡ Some x
kept_at [] ys j x e = absurd (none-some x e)
kept_at (z ∷ zs) ys zero x e = e
kept_at (z ∷ zs) ys (suc j) x e = kept_at zs ys j x e

-- something stands at each place of a list
pub there : {A : Type 0} (xs : List A) (k : ℕ) → k < length xs → (x : A) × (slice_get xs k ≡ Some x)
there [] k l = absurd (omega (arith, l))
there (z ∷ zs) zero l = (z, refl)
there (z ∷ zs) (suc k) l = there zs k (omega (arith, l))

-- what stands at a place is an element, and the other way round
pub listed_at : {A : Type 0} (xs : List A) (k : ℕ) (x : A) → slice_get xs k ≡ Some x → Contains xs x
listed_at xs k x e = (k, slice_get_within xs k x e, get_or_from_slice_get xs k x x e)

-- an element stands at a place
pub place_of : {A : Type 0} (xs : List A) (x : A) → Contains xs x → (k : ℕ) × (slice_get xs k ≡ Some x)
place_of xs x c = (c.0, slice_get-get_or xs c.0 x c.1 ∙ ap Some c.2)

-- the element that a loop reads, at its place
pub read_there : {A : Type 0} (xs : List A) (k : ℕ) (x : A) → k < length xs → x ≡ get_or xs k x → slice_get xs k ≡ Some x
read_there xs k x l e = slice_get-get_or xs k x l ∙ ap Some (sym e)

-- the front of a list and its next element
pub front_more : {A : Type 0} (xs : List A) (i : ℕ) (x : A) → i < length xs → x ≡ get_or xs i x → take (i + 1) xs ≡ take i xs ++ x ∷ []
front_more xs i x l e = take_more xs i x l ∙ ap (λ z. take i xs ++ z ∷ []) (sym e)

one_more : (i : ℕ) → suc i ≡ i + 1
one_more i = omega arith

-- what is left of a list, and its first element
pub rest_more : {A : Type 0} (xs : List A) (i : ℕ) (x : A) → i < length xs → x ≡ get_or xs i x → drop i xs ≡ x ∷ drop (i + 1) xs
rest_more xs i x l e = drop-cons xs i x l ∙ (ap (λ y. y ∷ drop (suc i) xs) (sym e) ∙ ap (λ n. x ∷ drop n xs) (one_more i))

-- the front of a list and its next element, mapped
pub mapped_front : {A B : Type 0} (f : A → B) (xs : List A) (i : ℕ) (x : A) → i < length xs → x ≡ get_or xs i x → map f (take (i + 1) xs) ≡ map f (take i xs) ++ f x ∷ []
mapped_front f xs i x l e = ap (map f) (front_more xs i x l e) ∙ map-append f (take i xs) (x ∷ [])

-- the front of a list and its next element, joined
pub joined_front : {A B : Type 0} (f : A → List B) (xs : List A) (i : ℕ) (x : A) → i < length xs → x ≡ get_or xs i x → flat_map f (take (i + 1) xs) ≡ flat_map f (take i xs) ++ f x
joined_front f xs i x l e = ap (flat_map f) (front_more xs i x l e) ∙ (flat_map-append f (take i xs) (x ∷ []) ∙ ap (λ z. flat_map f (take i xs) ++ z) (append-nil (f x)))

-- a loop that puts the image of each element behind the others
pub mapped_more : {A B : Type 0} (f : A → B) (xs : List A) (done now : List B) (i : ℕ) (x : A) (y : B) → now ≡ done ++ y ∷ [] → done ≡ map f (take i xs) → y ≡ f x → i < length xs → x ≡ get_or xs i x → now ≡ map f (take (i + 1) xs)
mapped_more f xs done now i x y e h same l at =
    e ∙ ap (λ z. z ++ y ∷ []) h ∙ ap (λ z. map f (take i xs) ++ z ∷ []) same ∙ sym (map-append f (take i xs) (x ∷ [])) ∙ ap (map f) (sym (front_more xs i x l at))

-- the number that is read, at its place
pub read_by : {A : Type 0} (xs : List A) (k : ℕ) (x d : A) → k < length xs → x ≡ get_or xs k d → slice_get xs k ≡ Some x
read_by xs k x d l e = slice_get-get_or xs k d l ∙ ap Some (sym e)

-- a number below the next one is below, or is it
pub last_or_before : (j step : ℕ) → j < step + 1 → (j < step) ⊎ (j ≡ step)
last_or_before zero zero l = inr refl
last_or_before zero (suc step) l = inl (omega arith)
last_or_before (suc j) zero l = absurd (omega (arith, l))
last_or_before (suc j) (suc step) l = ⊎_elim (λ (h : j < step). inl (omega (arith, h))) (λ h. inr (ap suc h)) (last_or_before j step (omega (arith, l)))
