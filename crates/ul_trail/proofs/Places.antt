-- Places of lists.
use Rattle.std.proofs.Common.{◌≡◌, ℕ, zero, suc, ◌+◌, List, [], ◌∷◌, ◌++◌, Some, refl, ap, ◌∙◌, sym, subst, ◌<◌, ◌≤◌, ◌⊎◌, inl, inr, arith, slice_get, get_or, length, take, drop, slice_set, add-one}
use Rattle.std.proofs.lemmas.Bool.{cases_eq}
use Rattle.std.proofs.lemmas.Option.{same_Some, none-some, slice_get_within, slice_get_read, get_or_from_slice_get}
use Rattle.std.proofs.lemmas.List.{get_or-set_other, length-set}
use Rattle.std.proofs.lemmas.Grind.{get_or-set_at}

pub set_cases : {A : Type 0} (xs : List A) (i j : ℕ) (v q : A) → i < length xs → slice_get (slice_set xs i v) j ≡ Some q → ((j ≡ i) × (q ≡ v)) ⊎ ((j ≡ i → ⊥) × (slice_get xs j ≡ Some q))
set_cases xs i j v q h e =
    let w : j < length xs = subst (λ (n : ℕ). j < n) (length-set xs i v) (slice_get_within (slice_set xs i v) j q e) in
    let g : get_or (slice_set xs i v) j q ≡ q = get_or_from_slice_get (slice_set xs i v) j q q e in
    elim (cases_eq j i) [
      | inl s ↦ inl (s, sym g ∙ get_or-set_at xs i j v q s h)
      | inr n ↦ inr (n, slice_get_read xs (length xs) j q refl w (sym (sym (get_or-set_other xs i j v q n) ∙ g)))
    ]

pub last_cases : {A : Type 0} (xs : List A) (x y : A) (i : ℕ) → slice_get (xs ++ x ∷ []) i ≡ Some y → ((i < length xs) × (slice_get xs i ≡ Some y)) ⊎ ((i ≡ length xs) × (y ≡ x))
last_cases [] x y zero h = inr (refl, sym (same_Some x y h))
last_cases [] x y (suc i) h = absurd (none-some y h)
last_cases (z ∷ xs) x y zero h = inl (omega arith, h)
last_cases (z ∷ xs) x y (suc i) h = elim (last_cases xs x y i h) [
  | inl g ↦ inl (let a = g.0 in omega arith, g.1)
  | inr g ↦ inr (ap suc g.0, g.1)
]

pub get_more : {A : Type 0} (xs ys : List A) (x : A) (k : ℕ) → slice_get xs k ≡ Some x → slice_get (xs ++ ys) k ≡ Some x
get_more [] ys x k h = absurd (none-some x h)
get_more (z ∷ xs) ys x zero h = h
get_more (z ∷ xs) ys x (suc k) h = get_more xs ys x k h

pub get_last : {A : Type 0} (xs : List A) (x : A) → slice_get (xs ++ x ∷ []) (length xs) ≡ Some x
get_last [] x = refl
get_last (z ∷ xs) x = get_last xs x

pub take_front : {A : Type 0} (xs ys : List A) (i : ℕ) → i ≤ length xs → take i (xs ++ ys) ≡ take i xs
take_front xs ys zero h = refl
take_front [] ys (suc i) h = absurd (omega arith)
take_front (x ∷ xs) ys (suc i) h = ap (λ (l : List _). x ∷ l) (take_front xs ys i (omega arith))

pub take_whole : {A : Type 0} (xs : List A) → take (length xs) xs ≡ xs
take_whole [] = refl
take_whole (x ∷ xs) = ap (λ (l : List _). x ∷ l) (take_whole xs)

take_suc : {A : Type 0} (xs : List A) (x : A) (i : ℕ) → slice_get xs i ≡ Some x → take (suc i) xs ≡ take i xs ++ x ∷ []
take_suc [] x i h = absurd (none-some x h)
take_suc (z ∷ xs) x zero h = ap (λ (y : _). y ∷ []) (same_Some z x h)
take_suc (z ∷ xs) x (suc i) h = ap (λ (l : List _). z ∷ l) (take_suc xs x i h)

pub take_next : {A : Type 0} (xs : List A) (x : A) (i : ℕ) → slice_get xs i ≡ Some x → take (i + 1) xs ≡ take i xs ++ x ∷ []
take_next {A} xs x i h = subst (λ (n : ℕ). take n xs ≡ take i xs ++ x ∷ []) (sym (add-one i)) (take_suc xs x i h)

pub drop_get : {A : Type 0} (xs : List A) (x : A) (i : ℕ) → slice_get xs i ≡ Some x → drop i xs ≡ x ∷ drop (i + 1) xs
drop_get {A} xs x i h = subst (λ (n : ℕ). drop i xs ≡ x ∷ drop n xs) (sym (add-one i)) (here xs i h)
  where
    here : (ys : List A) (k : ℕ) → slice_get ys k ≡ Some x → drop k ys ≡ x ∷ drop (suc k) ys
    here [] k e = absurd (none-some x e)
    here (y ∷ ys) zero e = ap (λ (z : A). z ∷ ys) (same_Some y x e)
    here (y ∷ ys) (suc k) e = here ys k e
