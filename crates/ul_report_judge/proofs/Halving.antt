-- Places in a list that increases by a total order of keys, and looking up by halves.
use Rattle.std.proofs.Common.{◌≡◌, ℕ, zero, suc, ◌+◌, ◌<◌, ◌≤◌, List, [], ◌∷◌, Bool, true, false, cond, Some, None, length, slice_get, arith, refl, sym, ap, subst, ◌∙◌, inl, inr}
use Rattle.std.specs.List.{position_from}
use Rattle.std.specs.Cmp.{IsTotalOrder}
use Rattle.std.specs.declared.cmp.Ordering.{Ordering}
use Rattle.std.specs.declared.cmp.Ordering.TheVariants.{Less, Equal, Greater}
use Rattle.std.specs.Ordering.{is_eq, ordering_reverse}
use Rattle.std.proofs.lemmas.Bool.{cases_order}
use Rattle.std.proofs.lemmas.Option.{none-some, same_Some, slice_get_within}
use Rattle.ul_problem.specs.Problems.{Increases, IncreasesFrom}

-- ---- the first that passes

first_from : {A : Type 0} (p : A → Bool) (n : ℕ) (xs : List A) (k : ℕ) (x : A) → slice_get xs k ≡ Some x → p x ≡ true
    → ((j : ℕ) (y : A) → j < k → slice_get xs j ≡ Some y → p y ≡ false) → position_from p n xs ≡ Some (n + k)
first_from p n [] k x e t before = absurd (none-some x e)
first_from p n (y ∷ ys) zero x e t before =
    ap (λ b. cond b (Some n) (position_from p (n + 1) ys)) (ap p (same_Some y x e) ∙ t) ∙ ap (λ (m : ℕ). Some m) (omega arith)
first_from p n (y ∷ ys) (suc k) x e t before =
    ap (λ b. cond b (Some n) (position_from p (n + 1) ys)) (before 0 y (omega arith) refl)
    ∙ (first_from p (n + 1) ys k x e t (λ j z l f. before (suc j) z (omega arith) f) ∙ ap (λ (m : ℕ). Some m) (omega arith))

-- where it is found
below_from : {A : Type 0} (p : A → Bool) (n : ℕ) (xs : List A) (k : ℕ) → position_from p n xs ≡ Some k → k < n + length xs
below_from p n [] k e = absurd (none-some k e)
below_from p n (y ∷ ys) k e = by_test (p y) (λ f. below_from p (n + 1) ys k f) e
  where
    by_test : (b : Bool) → (position_from p (n + 1) ys ≡ Some k → k < n + 1 + length ys) → cond b (Some n) (position_from p (n + 1) ys) ≡ Some k → k < n + suc (length ys)
    by_test true more f = omega (arith, same_Some n k f)
    by_test false more f = omega (arith, more f)

pub first_below : {A : Type 0} (p : A → Bool) (xs : List A) (k : ℕ) → position_from p 0 xs ≡ Some k → k < length xs
first_below p xs k e = omega (arith, below_from p 0 xs k e)

none_from : {A : Type 0} (p : A → Bool) (n : ℕ) (xs : List A) → ((j : ℕ) (y : A) → slice_get xs j ≡ Some y → p y ≡ false) → position_from p n xs ≡ None
none_from p n [] h = refl
none_from p n (y ∷ ys) h =
    ap (λ b. cond b (Some n) (position_from p (n + 1) ys)) (h 0 y refl) ∙ none_from p (n + 1) ys (λ j z f. h (suc j) z f)

-- ---- a list that increases

module _ {A K : Type 0} (key : A → K) (cmp : K → K → Ordering) (total : IsTotalOrder cmp) where
  rises_from : (x : A) (ys : List A) (j : ℕ) (y : A) → IncreasesFrom (λ (a b : A). cmp (key a) (key b) ≡ Less) x ys → slice_get ys j ≡ Some y → cmp (key x) (key y) ≡ Less
  rises_from x [] j y h e = absurd (none-some y e)
  rises_from x (z ∷ zs) zero y h e = subst (λ (w : A). cmp (key x) (key w) ≡ Less) (same_Some z y e) h.0
  rises_from x (z ∷ zs) (suc j) y h e = total.trans (key x) (key z) (key y) h.0 (rises_from z zs j y h.1 e)

  from_all : (x : A) (ys : List A) → IncreasesFrom (λ (a b : A). cmp (key a) (key b) ≡ Less) x ys → Increases (λ (a b : A). cmp (key a) (key b) ≡ Less) ys
  from_all x [] h = tt
  from_all x (y ∷ ys) h = h.1

  -- an earlier element is less than a later one
  pub rises : (xs : List A) (i j : ℕ) (x y : A) → Increases (λ (a b : A). cmp (key a) (key b) ≡ Less) xs → i < j → slice_get xs i ≡ Some x → slice_get xs j ≡ Some y → cmp (key x) (key y) ≡ Less
  rises [] i j x y h l e f = absurd (none-some x e)
  rises (z ∷ zs) i zero x y h l e f = absurd (omega arith)
  rises (z ∷ zs) zero (suc j) x y h l e f = subst (λ (w : A). cmp (key w) (key y) ≡ Less) (same_Some z x e) (rises_from z zs j y h f)
  rises (z ∷ zs) (suc i) (suc j) x y h l e f = rises zs i j x y (from_all z zs h) (omega arith) e f

  flipped_less : (a b : K) → cmp b a ≡ Greater → cmp a b ≡ Less
  flipped_less a b e = total.antisymm a b ∙ ap ordering_reverse e

  flipped_greater : (a b : K) → cmp b a ≡ Less → cmp a b ≡ Greater
  flipped_greater a b e = total.antisymm a b ∙ ap ordering_reverse e

  below_level : (a b c : K) → cmp a b ≡ Less → cmp b c ≡ Equal → cmp a c ≡ Less
  below_level a b c e f = flipped_less a c (sym (total.congr b c a f) ∙ flipped_greater b a e)

  -- the place at which an element stands that is level with a key is the first such
  pub found_place : (xs : List A) (k : K) (i : ℕ) (x : A) → Increases (λ (a b : A). cmp (key a) (key b) ≡ Less) xs → slice_get xs i ≡ Some x → cmp (key x) k ≡ Equal
      → Some i ≡ position_from (λ w. is_eq (cmp (key w) k)) 0 xs
  found_place xs k i x h e f =
      sym (first_from (λ w. is_eq (cmp (key w) k)) 0 xs i x e (ap is_eq f) (λ j y l g. ap is_eq (below_level (key y) (key x) k (rises xs j i y x h l g e) f)) ∙ ap (λ (m : ℕ). Some m) (omega arith))

  -- where none is level with a key, there is no place
  pub no_place : (xs : List A) (k : K) → ((j : ℕ) (y : A) → slice_get xs j ≡ Some y → is_eq (cmp (key y) k) ≡ false) → None ≡ position_from (λ w. is_eq (cmp (key w) k)) 0 xs
  no_place xs k h = sym (none_from (λ w. is_eq (cmp (key w) k)) 0 xs h)

-- each element before a place is less than a key, and each from a place on is greater
pub record IsHalved {A K : Type 0} (key : A → K) (cmp : K → K → Ordering) (xs : List A) (k : K) (low high : ℕ) : Type 0 where
  pub order : low ≤ high
  pub within : high ≤ length xs
  pub below : (j : ℕ) (x : A) → j < low → slice_get xs j ≡ Some x → cmp (key x) k ≡ Less
  pub above : (j : ℕ) (x : A) → high ≤ j → slice_get xs j ≡ Some x → cmp (key x) k ≡ Greater

module _ {A K : Type 0} (key : A → K) (cmp : K → K → Ordering) (total : IsTotalOrder cmp) where
  pub halves_begin : (xs : List A) (k : K) (n : ℕ) → n ≡ length xs → IsHalved key cmp xs k 0 n
  halves_begin xs k n e = record {
    order = omega arith;
    within = omega arith;
    below = λ j x l. absurd (omega arith);
    above = λ j x l g. absurd (let i = slice_get_within xs j x g in omega arith);
  }

  pub halves_up : (xs : List A) (k : K) (low high middle : ℕ) (x : A) → Increases (λ (a b : A). cmp (key a) (key b) ≡ Less) xs → IsHalved key cmp xs k low high → low ≤ middle → middle < high
      → slice_get xs middle ≡ Some x → cmp (key x) k ≡ Less → IsHalved key cmp xs k (middle + 1) high
  halves_up xs k low high middle x inc h l m e less = record {
    order = omega arith;
    within = h.within;
    below = λ j y a i. elim (cases_order j middle) [
      | inl s ↦ subst (λ (z : A). cmp (key z) k ≡ Less) (same_Some x y (sym e ∙ ap (slice_get xs) (sym s) ∙ i)) less
      | inr (inl s) ↦ total.trans (key y) (key x) k (rises key cmp total xs j middle y x inc s i e) less
      | inr (inr s) ↦ absurd (omega arith)
    ];
    above = h.above;
  }

  pub halves_down : (xs : List A) (k : K) (low high middle : ℕ) (x : A) → Increases (λ (a b : A). cmp (key a) (key b) ≡ Less) xs → IsHalved key cmp xs k low high → low ≤ middle → middle < high
      → slice_get xs middle ≡ Some x → cmp (key x) k ≡ Greater → IsHalved key cmp xs k low middle
  halves_down xs k low high middle x inc h l m e greater = record {
    order = l;
    within = let w = h.within in omega arith;
    below = h.below;
    above = λ j y a i. elim (cases_order j middle) [
      | inl s ↦ subst (λ (z : A). cmp (key z) k ≡ Greater) (same_Some x y (sym e ∙ ap (slice_get xs) (sym s) ∙ i)) greater
      | inr (inl s) ↦ absurd (omega arith)
      | inr (inr s) ↦ flipped_greater key cmp total (key y) k (total.trans k (key x) (key y) (flipped_less key cmp total k (key x) greater) (rises key cmp total xs middle j x y inc s e i))
    ];
  }

  pub halves_end : (xs : List A) (k : K) (low high : ℕ) → IsHalved key cmp xs k low high → high ≤ low → None ≡ position_from (λ w. is_eq (cmp (key w) k)) 0 xs
  halves_end xs k low high h l = no_place key cmp total xs k (λ j y e. elim (cases_order j low) [
    | inl i ↦ ap is_eq (h.above j y (omega arith) e)
    | inr (inl i) ↦ ap is_eq (h.below j y i e)
    | inr (inr i) ↦ ap is_eq (h.above j y (omega arith) e)
  ])
