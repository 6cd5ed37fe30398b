-- One of a list, by its head and by what follows.
use Rattle.std.proofs.Common.{◌≡◌, ℕ, zero, suc, List, [], ◌∷◌, ◌++◌, Some, ◌<◌, ◌⊎◌, inl, inr, length, arith, ap, slice_get, get_or}
use Rattle.std.specs.List.{Contains}
use Rattle.std.proofs.lemmas.Option.{none-some, same_Some}
use Rattle.std.proofs.lemmas.List.Elements.{Contains-append_left, Contains-append_right, Contains-append_cases}

pub at_head : {A : Type 0} (y : A) (ys : List A) (x : A) → y ≡ x → Contains (y ∷ ys) x
at_head y ys x e = (0, omega arith, e)

pub in_rest : {A : Type 0} (y : A) (ys : List A) (x : A) → Contains ys x → Contains (y ∷ ys) x
in_rest y ys x h = let l = h.1 in (suc h.0, omega arith, h.2)

head_at : {A : Type 0} (y : A) (ys : List A) (x : A) (k : ℕ) → k < length (y ∷ ys) → get_or (y ∷ ys) k x ≡ x → (y ≡ x) ⊎ Contains ys x
head_at y ys x zero l e = inl e
head_at y ys x (suc k) l e = inr (k, omega arith, e)

pub head_or_rest : {A : Type 0} (y : A) (ys : List A) (x : A) → Contains (y ∷ ys) x → (y ≡ x) ⊎ Contains ys x
head_or_rest y ys x h = head_at y ys x h.0 h.1 h.2

pub in_none : {A : Type 0} (x : A) → Contains [] x → ⊥
in_none x h = let l = h.1 in absurd (omega arith)

-- one of a list stands at some place
pub one_place : {A : Type 0} (xs : List A) (x : A) → Contains xs x → (k : ℕ) × (slice_get xs k ≡ Some x)
one_place [] x h = absurd (in_none x h)
one_place (y ∷ ys) x h = elim (head_or_rest y ys x h) [
  | inl e ↦ (0, ap Some e)
  | inr i ↦ (let r = one_place ys x i in (suc r.0, r.1))
]

pub place_one : {A : Type 0} (xs : List A) (k : ℕ) (x : A) → slice_get xs k ≡ Some x → Contains xs x
place_one [] k x e = absurd (none-some x e)
place_one (y ∷ ys) zero x e = at_head y ys x (same_Some y x e)
place_one (y ∷ ys) (suc k) x e = in_rest y ys x (place_one ys k x e)

-- one of two lists is one of both, one after the other, and the other way round
pub one_left : {A : Type 0} (x : A) (xs ys : List A) → Contains xs x → Contains (xs ++ ys) x
one_left x xs ys h = Contains-append_left xs ys x h

pub one_right : {A : Type 0} (x : A) (xs ys : List A) → Contains ys x → Contains (xs ++ ys) x
one_right x xs ys h = Contains-append_right xs ys x h

pub one_cases : {A : Type 0} (x : A) (xs ys : List A) → Contains (xs ++ ys) x → Contains xs x ⊎ Contains ys x
one_cases x xs ys h = Contains-append_cases xs ys x h
