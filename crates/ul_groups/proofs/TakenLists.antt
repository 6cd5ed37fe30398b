-- Elements that are taken from the front of a list, one by one.
use Rattle.std.proofs.Common.{◌≡◌, ◌+◌, ◌++◌, ◌∙◌, ℕ, zero, suc, List, [], ◌∷◌, take, drop, add-one, ap, sym}

first_taken : {X : Type 0} (xs : List X) (i : ℕ) (x : X) (rest : List X) → drop i xs ≡ x ∷ rest → take (suc i) xs ≡ take i xs ++ x ∷ []
first_taken [] zero x rest e = absurd (let f : [] ≡ x ∷ rest = e in cc)
first_taken [] (suc i) x rest e = absurd (let f : [] ≡ x ∷ rest = e in cc)
first_taken (y ∷ ys) zero x rest e = cc
first_taken (y ∷ ys) (suc i) x rest e = ap (λ zs. y ∷ zs) (first_taken ys i x rest e)

first_dropped : {X : Type 0} (xs : List X) (i : ℕ) (x : X) (rest : List X) → drop i xs ≡ x ∷ rest → drop (suc i) xs ≡ rest
first_dropped [] zero x rest e = absurd (let f : [] ≡ x ∷ rest = e in cc)
first_dropped [] (suc i) x rest e = absurd (let f : [] ≡ x ∷ rest = e in cc)
first_dropped (y ∷ ys) zero x rest e = cc
first_dropped (y ∷ ys) (suc i) x rest e = first_dropped ys i x rest e

taken_more : {X : Type 0} (xs : List X) (i : ℕ) (before : List X) (x : X) (rest : List X) → before ≡ drop i xs → before ≡ x ∷ rest
    → take (i + 1) xs ≡ take i xs ++ x ∷ []
taken_more xs i before x rest d e = ap (λ k. take k xs) (add-one i) ∙ first_taken xs i x rest (sym d ∙ e)

-- the next was put behind those that were taken
pub next_taken : {X : Type 0} (xs : List X) (i : ℕ) (before rest list after : List X) (x : X) → list ≡ take i xs → before ≡ drop i xs
    → before ≡ x ∷ rest → after ≡ list ++ x ∷ [] → after ≡ take (i + 1) xs
next_taken {X} xs i before rest list after x l d e a =
    a ∙ ap (λ (ys : List X). ys ++ x ∷ []) l ∙ sym (taken_more xs i before x rest d e)

-- and dropped
pub dropped_more : {X : Type 0} (xs : List X) (i : ℕ) (before : List X) (x : X) (rest : List X) → before ≡ drop i xs → before ≡ x ∷ rest
    → rest ≡ drop (i + 1) xs
dropped_more xs i before x rest d e = sym (ap (λ k. drop k xs) (add-one i) ∙ first_dropped xs i x rest (sym d ∙ e))
