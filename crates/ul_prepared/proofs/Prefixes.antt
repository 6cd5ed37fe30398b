-- Releases cut to so many numbers: they don't change their order, and one that is cut to a front's length ties with it exactly where it
-- begins with it.
use Rattle.std.specs.Prelude.{nat_eq}
use Rattle.std.specs.Cmp.{unsigned_tied}
use Rattle.std.specs.Ordering.{nat_cmp, ordering_then, is_gt, is_eq}
use Rattle.std.specs.declared.cmp.Ordering.{Ordering}
use Rattle.std.specs.declared.cmp.Ordering.TheVariants.{Less, Equal, Greater}
use Rattle.std.proofs.Common.{◌≡◌, ◌-◌, ◌&&◌, ℕ, zero, suc, List, [], ◌∷◌, length, max, take, false, refl, sym, ap, ◌∙◌, inl, inr, arith, eqb}
use Rattle.std.proofs.lemmas.Bool.{cases_eq, eq-eqb, ne_eqb}
use Rattle.ul_version.specs.Order.{has_release_front, padded_release, release_cmp}

-- the first number of a release, which is 0 past its end
first : List ℕ → ℕ
first [] = 0
first (x ∷ xs) = x

-- the numbers after the first
rest : List ℕ → List ℕ
rest [] = []
rest (x ∷ xs) = xs

-- two releases beside each other, number by number
release_next : (xs ys : List ℕ) → release_cmp xs ys ≡ ordering_then (nat_cmp (first xs) (first ys)) (release_cmp (rest xs) (rest ys))
unfolding release_cmp padded_release first rest
release_next [] [] = refl
release_next [] (y ∷ ys) =
    let e : max 0 (suc (length ys)) - 0 ≡ suc (max 0 (length ys) - 0) = omega arith in
    let f : max 0 (suc (length ys)) - suc (length ys) ≡ max 0 (length ys) - length ys = omega arith in
    rw (e, f) refl
release_next (x ∷ xs) [] =
    let e : max (suc (length xs)) 0 - 0 ≡ suc (max (length xs) 0 - 0) = omega arith in
    let f : max (suc (length xs)) 0 - suc (length xs) ≡ max (length xs) 0 - length xs = omega arith in
    rw (e, f) refl
release_next (x ∷ xs) (y ∷ ys) =
    let e : max (suc (length xs)) (suc (length ys)) - suc (length xs) ≡ max (length xs) (length ys) - length xs = omega arith in
    let f : max (suc (length xs)) (suc (length ys)) - suc (length ys) ≡ max (length xs) (length ys) - length ys = omega arith in
    rw (e, f) refl

first-take : (n : ℕ) (xs : List ℕ) → first (take (suc n) xs) ≡ first xs
unfolding first
first-take n [] = refl
first-take n (x ∷ xs) = refl

rest-take : (n : ℕ) (xs : List ℕ) → rest (take (suc n) xs) ≡ take n (rest xs)
unfolding rest
rest-take zero [] = refl
rest-take (suc n) [] = refl
rest-take n (x ∷ xs) = refl

-- two releases that are cut, number by number
take-next : (n : ℕ) (xs ys : List ℕ) → release_cmp (take (suc n) xs) (take (suc n) ys)
    ≡ ordering_then (nat_cmp (first xs) (first ys)) (release_cmp (take n (rest xs)) (take n (rest ys)))
take-next n xs ys = release_next (take (suc n) xs) (take (suc n) ys)
    ∙ rw (first-take n xs, first-take n ys, rest-take n xs, rest-take n ys) refl

-- a later key that doesn't turn upward keeps the whole from doing so
pub then_not_greater : (o r q : Ordering) → is_gt (ordering_then o r) ≡ false → (is_gt r ≡ false → is_gt q ≡ false) → is_gt (ordering_then o q) ≡ false
then_not_greater Less r q h f = refl
then_not_greater Equal r q h f = f h
then_not_greater Greater r q h f = cc

none_after : is_gt (release_cmp [] []) ≡ false
unfolding release_cmp padded_release
none_after = refl

-- a release that isn't after another one isn't after it when both are cut
pub cut_rises : (n : ℕ) (xs ys : List ℕ) → is_gt (release_cmp xs ys) ≡ false → is_gt (release_cmp (take n xs) (take n ys)) ≡ false
cut_rises zero xs ys h = none_after
cut_rises (suc n) xs ys h = ap is_gt (take-next n xs ys)
    ∙ then_not_greater (nat_cmp (first xs) (first ys)) (release_cmp (rest xs) (rest ys)) (release_cmp (take n (rest xs)) (take n (rest ys)))
    (sym (ap is_gt (release_next xs ys)) ∙ h) (cut_rises n (rest xs) (rest ys))

pub eq_then : (o r : Ordering) → is_eq (ordering_then o r) ≡ (is_eq o && is_eq r)
eq_then Less r = refl
eq_then Equal r = refl
eq_then Greater r = refl

eqb-turned : (x y : ℕ) → eqb x y ≡ eqb y x
eqb-turned x y = elim (cases_eq x y) [
  | inl e ↦ eq-eqb x y e ∙ sym (eq-eqb y x (sym e))
  | inr ne ↦ ne_eqb x y ne ∙ sym (ne_eqb y x (λ e. ne (sym e)))
]

-- whether a release begins with a front, number by number
front_next : (f : ℕ) (fs xs : List ℕ) → has_release_front (f ∷ fs) xs ≡ (nat_eq f (first xs) && has_release_front fs (rest xs))
unfolding has_release_front padded_release first rest
front_next f fs [] =
    let e : suc (length fs) - 0 ≡ suc (length fs - 0) = omega arith in
    rw e refl
front_next f fs (x ∷ xs) =
    let e : suc (length fs) - suc (length xs) ≡ length fs - length xs = omega arith in
    rw e refl

none_tie : (xs : List ℕ) → is_eq (release_cmp [] []) ≡ has_release_front [] xs
unfolding release_cmp padded_release has_release_front
none_tie xs = refl

-- a release that is cut to a front's length ties with it where it begins with it
pub cut_ties : (fs xs : List ℕ) → is_eq (release_cmp (take (length fs) xs) fs) ≡ has_release_front fs xs
unfolding first rest
cut_ties [] xs = none_tie xs
cut_ties (f ∷ fs) xs =
    ap is_eq (release_next (take (suc (length fs)) xs) (f ∷ fs) ∙ rw (first-take (length fs) xs, rest-take (length fs) xs) refl)
    ∙ eq_then (nat_cmp (first xs) f) (release_cmp (take (length fs) (rest xs)) fs)
    ∙ rw (unsigned_tied (first xs) f, eqb-turned (first xs) f, cut_ties fs (rest xs)) (sym (front_next f fs xs))
