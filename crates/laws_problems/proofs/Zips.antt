-- Lists that agree place by place.
use Rattle.std.proofs.Common.{◌≡◌, ℕ, zero, suc, List, [], ◌∷◌, Some, refl, sym, subst, ⊎_elim}
use Rattle.std.specs.Prelude.{Contains, slice_get}
use Rattle.std.specs.List.{AllZip}
use Rattle.std.proofs.lemmas.Option.{none-some, same_Some}
use Rattle.ul_base.proofs.ForCallers.{contains_first, contains_later, contains_cases, none_in}

-- where each element has one that fits it, there is a list of them
pub zip_exists : {A B : Type 0} (Q : A → B → Type 0) (xs : List A) → ((x : A) → Contains xs x → (y : B) × Q x y)
    → (ys : List B) × AllZip Q xs ys
zip_exists Q [] f = ([], tt)
zip_exists Q (x ∷ xs) f =
    let y = f x (contains_first x xs) in
    let r = zip_exists Q xs (λ z m. f z (contains_later x xs z m)) in
    (y.0 ∷ r.0, (y.1, r.1))

-- what fits the element at a place
pub zip_at : {A B : Type 0} (Q : A → B → Type 0) (xs : List A) (ys : List B) (k : ℕ) (x : A) → AllZip Q xs ys
    → slice_get xs k ≡ Some x → (y : B) × (slice_get ys k ≡ Some y) × Q x y
zip_at Q [] [] k x h e = absurd (none-some x e)
zip_at Q [] (y ∷ ys) k x h e = absurd h
zip_at Q (z ∷ xs) [] k x h e = absurd h
zip_at Q (z ∷ xs) (y ∷ ys) zero x h e = (y, refl, subst (λ w. Q w y) (same_Some z x e) h.0)
zip_at Q (z ∷ xs) (y ∷ ys) (suc k) x h e = zip_at Q xs ys k x h.1 e

-- the element that what stands at a place fits
pub zip_from : {A B : Type 0} (Q : A → B → Type 0) (xs : List A) (ys : List B) (k : ℕ) (y : B) → AllZip Q xs ys
    → slice_get ys k ≡ Some y → (x : A) × (slice_get xs k ≡ Some x) × Q x y
zip_from Q [] [] k y h e = absurd (none-some y e)
zip_from Q [] (z ∷ ys) k y h e = absurd h
zip_from Q (x ∷ xs) [] k y h e = absurd h
zip_from Q (x ∷ xs) (z ∷ ys) zero y h e = (x, refl, subst (Q x) (same_Some z y e) h.0)
zip_from Q (x ∷ xs) (z ∷ ys) (suc k) y h e = zip_from Q xs ys k y h.1 e

-- what fits an element
pub zip_has : {A B : Type 0} (Q : A → B → Type 0) (xs : List A) (ys : List B) (x : A) → AllZip Q xs ys → Contains xs x
    → (y : B) × Contains ys y × Q x y
zip_has Q [] ys x h m = absurd (none_in x m)
zip_has Q (z ∷ xs) [] x h m = absurd h
zip_has Q (z ∷ xs) (y ∷ ys) x h m = ⊎_elim (λ e. (y, contains_first y ys, subst (λ w. Q w y) (sym e) h.0))
    (λ r. let f = zip_has Q xs ys x h.1 r in (f.0, contains_later y ys f.0 f.1, f.2)) (contains_cases z xs x m)
