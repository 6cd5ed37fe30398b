-- Two rising lists merged into one.
use Rattle.std.proofs.Common.{◌≡◌, ℕ, zero, suc, List, [], ◌∷◌, ◌++◌, ◌-◌, Bool, true, false, cond, refl, ap, ◌∙◌, sym, get_or, ◌+◌, ◌^◌, ◌<◌, ◌≤◌, length, drop, take, arith, inl, inr, ltb, eqb, subst, add-one, min, append_assoc, drop-cons}
use Rattle.std.proofs.lemmas.List.{drop_all, append-nil, take_all, length-drop}
use Rattle.std.specs.Prelude.{◌||◌, ◌⊎◌, ◌↔◌, slice_get, Option, Some, None, All, Contains}
use Rattle.std.specs.Option.{option_eq}
use Rattle.std.specs.List.{list_any}
use Rattle.std.specs.List.Sorted.{IsStrictlyIncreasing}
use Rattle.std.proofs.lemmas.Bool.{eqb-true, eq-eqb, cases_order, lt-ltb, le-ltb, cond-true, cond-false, or_cases, or_left, or_right}
use Rattle.std.proofs.lemmas.List.Elements.{All-nil, All-cons, All-head, All-tail}
use Rattle.ul_ranges.specs.Pieces.{AreStarts, IsRefinement}
use Rattle.ul_ranges.proofs.FlagLaws.{any_in, in_any}

unfoldable pub merged_with : ℕ → (List ℕ → List ℕ) → List ℕ → List ℕ
merged_with x f [] = x ∷ f []
merged_with x f (y ∷ ys) = cond (ltb x y) (x ∷ f (y ∷ ys)) (cond (ltb y x) (y ∷ merged_with x f ys) (x ∷ f ys))

unfoldable pub merged : List ℕ → List ℕ → List ℕ
merged [] ys = ys
merged (x ∷ xs) ys = merged_with x (merged xs) ys

pub merged-nil_left : (ys : List ℕ) → merged [] ys ≡ ys
unfolding merged
merged-nil_left ys = refl

pub merged-nil : (xs : List ℕ) → merged xs [] ≡ xs
unfolding merged merged_with
merged-nil [] = refl
merged-nil (x ∷ xs) = ap (λ l. x ∷ l) (merged-nil xs)

pub merged-below : (x y : ℕ) (xs ys : List ℕ) → x < y → merged (x ∷ xs) (y ∷ ys) ≡ x ∷ merged xs (y ∷ ys)
unfolding merged merged_with
merged-below x y xs ys h = cond-true (ltb x y) _ _ (lt-ltb x y h)

pub merged-above : (x y : ℕ) (xs ys : List ℕ) → y < x → merged (x ∷ xs) (y ∷ ys) ≡ y ∷ merged (x ∷ xs) ys
unfolding merged merged_with
merged-above x y xs ys h = cond-false (ltb x y) _ _ (le-ltb x y (omega arith)) ∙ cond-true (ltb y x) _ _ (lt-ltb y x h)

pub merged-same : (x y : ℕ) (xs ys : List ℕ) → x ≡ y → merged (x ∷ xs) (y ∷ ys) ≡ x ∷ merged xs ys
unfolding merged merged_with
merged-same x y xs ys h = cond-false (ltb x y) _ _ (le-ltb x y (omega arith)) ∙ cond-false (ltb y x) _ _ (le-ltb y x (omega arith))

-- ---- what it has
or_assoc : (a b c : Bool) → ((a || b) || c) ≡ (a || (b || c))
or_assoc true b c = refl
or_assoc false b c = refl

or_comm_left : (a b c : Bool) → (b || (a || c)) ≡ (a || (b || c))
or_comm_left true true c = refl
or_comm_left true false c = refl
or_comm_left false true c = refl
or_comm_left false false c = refl

or_same : (a b c : Bool) → (a || (b || c)) ≡ ((a || b) || (a || c))
or_same true b c = refl
or_same false b c = refl

or_false : (b : Bool) → (b || false) ≡ b
or_false true = refl
or_false false = refl

any_step : (p : ℕ → Bool) (x : ℕ) (xs : List ℕ) → ((zs : List ℕ) → list_any p (merged xs zs) ≡ (list_any p xs || list_any p zs))
    → (ys : List ℕ) → list_any p (merged (x ∷ xs) ys) ≡ (list_any p (x ∷ xs) || list_any p ys)
any_step p x xs ih [] = ap (list_any p) (merged-nil (x ∷ xs)) ∙ sym (or_false (p x || list_any p xs))
any_step p x xs ih (y ∷ ys) =
    elim (cases_order x y) [
      | inl e ↦
          ap (list_any p) (merged-same x y xs ys e) ∙ ap (λ b. p x || b) (ih ys) ∙ or_same (p x) (list_any p xs) (list_any p ys)
          ∙ ap (λ v. (p x || list_any p xs) || (p v || list_any p ys)) e
      | inr (inl h) ↦
          ap (list_any p) (merged-below x y xs ys h) ∙ ap (λ b. p x || b) (ih (y ∷ ys)) ∙ sym (or_assoc (p x) (list_any p xs) (p y || list_any p ys))
      | inr (inr h) ↦
          ap (list_any p) (merged-above x y xs ys h) ∙ ap (λ b. p y || b) (any_step p x xs ih ys)
          ∙ or_comm_left (p x || list_any p xs) (p y) (list_any p ys)
    ]

any_merged : (p : ℕ → Bool) (xs ys : List ℕ) → list_any p (merged xs ys) ≡ (list_any p xs || list_any p ys)
any_merged p [] ys = ap (list_any p) (merged-nil_left ys)
any_merged p (x ∷ xs) ys = any_step p x xs (any_merged p xs) ys

merged_members : (xs ys : List ℕ) (v : ℕ) → Contains (merged xs ys) v ↔ (Contains xs v ⊎ Contains ys v)
merged_members xs ys v =
    let whole = any_merged (λ m. eqb m v) xs ys in (
      λ c. elim (or_cases (list_any (λ m. eqb m v) xs) (list_any (λ m. eqb m v) ys) (sym whole ∙ in_any v (merged xs ys) c)) [
        | inl h ↦ inl (any_in v xs h)
        | inr h ↦ inr (any_in v ys h)
      ],
      λ c. any_in v (merged xs ys) (whole ∙ elim c [
        | inl h ↦ or_left (list_any (λ m. eqb m v) xs) (list_any (λ m. eqb m v) ys) (in_any v xs h)
        | inr h ↦ or_right (list_any (λ m. eqb m v) xs) (list_any (λ m. eqb m v) ys) (in_any v ys h)
      ]),
    )

-- ---- its order
-- rising numbers from n on, below 2 ^ 96
abbrev pub IsRisingFrom : ℕ → List ℕ → Type 0
IsRisingFrom n [] = Unit {0}
IsRisingFrom n (x ∷ xs) = (n ≤ x) × (x < 2 ^ 96) × IsRisingFrom (x + 1) xs

rising_step : (x : ℕ) (xs : List ℕ) → ((n : ℕ) (zs : List ℕ) → IsRisingFrom n xs → IsRisingFrom n zs → IsRisingFrom n (merged xs zs))
    → (n : ℕ) (ys : List ℕ) → IsRisingFrom n (x ∷ xs) → IsRisingFrom n ys → IsRisingFrom n (merged (x ∷ xs) ys)
rising_step x xs ih n [] r s = subst (IsRisingFrom n) (sym (merged-nil (x ∷ xs))) r
rising_step x xs ih n (y ∷ ys) r s =
    elim (cases_order x y) [
      | inl e ↦
          subst (IsRisingFrom n) (sym (merged-same x y xs ys e)) (r.0, r.1, ih (x + 1) ys r.2 (subst (λ v. IsRisingFrom (v + 1) ys) (sym e) s.2))
      | inr (inl h) ↦
          subst (IsRisingFrom n) (sym (merged-below x y xs ys h)) (r.0, r.1, ih (x + 1) (y ∷ ys) r.2 (omega arith, s.1, s.2))
      | inr (inr h) ↦
          subst (IsRisingFrom n) (sym (merged-above x y xs ys h)) (s.0, s.1, rising_step x xs ih (y + 1) ys (omega arith, r.1, r.2) s.2)
    ]

rising_merged : (n : ℕ) (xs ys : List ℕ) → IsRisingFrom n xs → IsRisingFrom n ys → IsRisingFrom n (merged xs ys)
rising_merged n [] ys r s = subst (IsRisingFrom n) (sym (merged-nil_left ys)) s
rising_merged n (x ∷ xs) ys r s = rising_step x xs (λ m zs. rising_merged m xs zs) n ys r s

tail_rises : (x : ℕ) (xs : List ℕ) → IsStrictlyIncreasing (x ∷ xs) → IsStrictlyIncreasing xs
tail_rises x xs inc k h =
    let e : suc k + 1 ≡ suc (k + 1) = omega arith in
    let l : suc k + 1 < length (x ∷ xs) = omega arith in
    let g : get_or (x ∷ xs) (suc k) 0 < get_or (x ∷ xs) (suc k + 1) 0 = inc (suc k) l in
    rw e at g

rising_from : (n : ℕ) (xs : List ℕ) → (0 < length xs → n ≤ get_or xs 0 0) → IsStrictlyIncreasing xs → All (λ s. s < 2 ^ 96) xs → IsRisingFrom n xs
rising_from n [] b inc all = tt
rising_from n (x ∷ xs) b inc all = (
  b (omega arith),
  All-head (λ s. s < 2 ^ 96) x xs all,
  rising_from (x + 1) xs (λ h. let g : x < get_or xs 0 0 = inc 0 (omega arith) in omega arith) (tail_rises x xs inc)
      (All-tail (λ s. s < 2 ^ 96) x xs all),
)

rising_next : (n : ℕ) (xs : List ℕ) → IsRisingFrom n xs → (k : ℕ) → suc k < length xs → get_or xs k 0 < get_or xs (suc k) 0
rising_next n [] r k h = absurd (omega arith)
rising_next n (x ∷ []) r k h = absurd (omega arith)
rising_next n (x ∷ y ∷ ys) r zero h = let g = r.2.0 in omega arith
rising_next n (x ∷ y ∷ ys) r (suc k) h = rising_next (x + 1) (y ∷ ys) r.2 k (omega arith)

rising_increases : (n : ℕ) (xs : List ℕ) → IsRisingFrom n xs → IsStrictlyIncreasing xs
rising_increases n xs r k h = rw add-one (rising_next n xs r k (rw add-one at h))

rising_below : (n : ℕ) (xs : List ℕ) → IsRisingFrom n xs → All (λ s. s < 2 ^ 96) xs
rising_below n [] r = All-nil (λ s. s < 2 ^ 96)
rising_below n (x ∷ xs) r = All-cons (λ s. s < 2 ^ 96) x xs r.1 (rising_below (x + 1) xs r.2)

pub starts_rise : (xs : List ℕ) → AreStarts xs → IsRisingFrom 0 xs
starts_rise xs a = rising_from 0 xs (λ _. omega arith) a.rising a.below

pub rising_starts : (xs : List ℕ) → slice_get xs 0 ≡ Some 0 → IsRisingFrom 0 xs → AreStarts xs
rising_starts xs first r = record { first = first; rising = rising_increases 0 xs r; below = rising_below 0 xs r }

-- a number that falls short, or is too large, is no next start
pub refused : (xs : List ℕ) (i least : ℕ) → i < length xs → (IsRisingFrom 0 xs → IsRisingFrom least (drop i xs))
    → ((get_or xs i 0 < least) ⊎ (2 ^ 96 ≤ get_or xs i 0)) → AreStarts xs → ⊥
refused xs i least inside seen bad a =
    let head : drop i xs ≡ get_or xs i 0 ∷ drop (i + 1) xs = rw (add-one i) (drop-cons xs i 0 inside) in
    let r : IsRisingFrom least (get_or xs i 0 ∷ drop (i + 1) xs) = subst (IsRisingFrom least) head (seen (starts_rise xs a)) in
    let low = r.0 in
    let high = r.1 in
    elim bad [ inl h ↦ omega arith | inr h ↦ omega arith ]

pub accepted : (xs : List ℕ) (i least : ℕ) → length xs ≤ i → (IsRisingFrom least (drop i xs) → IsRisingFrom 0 xs) → slice_get xs 0 ≡ Some 0 → AreStarts xs
accepted xs i least past seen first =
    rising_starts xs first (seen (subst (IsRisingFrom least) (sym (drop_all i xs past)) tt))

-- ---- the only rising list with its members
least_member : (n v : ℕ) (xs : List ℕ) → IsRisingFrom n xs → Contains xs v → n ≤ v
least_member n v [] r (k, l, e) = absurd (omega arith)
least_member n v (x ∷ xs) r (zero, l, e) = let a = r.0 in let s : x ≡ v = e in omega arith
least_member n v (x ∷ xs) r (suc k, l, e) =
    let a = r.0 in let b = least_member (x + 1) v xs r.2 (k, (let h : suc k < suc (length xs) = l in omega arith), e) in omega arith

in_tail : (v y : ℕ) (ys : List ℕ) → Contains (y ∷ ys) v → (v ≡ y → ⊥) → Contains ys v
in_tail v y ys (zero, l, e) ne = absurd (ne (sym e))
in_tail v y ys (suc k, l, e) ne = (k, (let h : suc k < suc (length ys) = l in omega arith), e)

in_more : (v y : ℕ) (ys : List ℕ) → Contains ys v → Contains (y ∷ ys) v
in_more v y ys h = (suc h.0, omega (arith, h.1), h.2)

at_head : (y : ℕ) (ys : List ℕ) → Contains (y ∷ ys) y
at_head y ys = (0, omega arith, refl)

tails : (x y : ℕ) (xs ys : List ℕ) → x ≡ y → IsRisingFrom (x + 1) xs → ((v : ℕ) → Contains (x ∷ xs) v → Contains (y ∷ ys) v)
    → (v : ℕ) → Contains xs v → Contains ys v
tails x y xs ys e r h v c = in_tail v y ys (h v (in_more v x xs c)) (λ s. let l = least_member (x + 1) v xs r c in absurd (omega arith))

not_before : (x y : ℕ) (xs ys : List ℕ) → IsRisingFrom (y + 1) ys → Contains (y ∷ ys) x → x < y → ⊥
not_before x y xs ys r c h = let l = least_member (y + 1) x ys r (in_tail x y ys c (λ e. absurd (omega arith))) in omega arith

same_rising : (n m : ℕ) (xs ys : List ℕ) → IsRisingFrom n xs → IsRisingFrom m ys → ((v : ℕ) → Contains xs v → Contains ys v)
    → ((v : ℕ) → Contains ys v → Contains xs v) → xs ≡ ys
same_rising n m [] [] r s f g = refl
same_rising n m [] (y ∷ ys) r s f g = let c = g y (at_head y ys) in let l = c.1 in absurd (omega arith)
same_rising n m (x ∷ xs) [] r s f g = let c = f x (at_head x xs) in let l = c.1 in absurd (omega arith)
same_rising n m (x ∷ xs) (y ∷ ys) r s f g =
    elim (cases_order x y) [
      | inl e ↦
          let rest : xs ≡ ys = same_rising (x + 1) (y + 1) xs ys r.2 s.2 (tails x y xs ys e r.2 f) (tails y x ys xs (sym e) s.2 g) in cc
      | inr (inl h) ↦ absurd (not_before x y xs ys s.2 (f x (at_head x xs)) h)
      | inr (inr h) ↦ absurd (not_before y x ys xs r.2 (g y (at_head y ys)) h)
    ]

pub only_refinement : (a b c d : List ℕ) → IsRefinement a b c → IsRefinement a b d → c ≡ d
only_refinement a b c d p q =
    same_rising 0 0 c d (starts_rise c p.cuts)
    (starts_rise d q.cuts)
    (λ v h. (q.members v).1 ((p.members v).0 h)) (λ v h. (p.members v).1 ((q.members v).0 h))

first_merged : (xs ys : List ℕ) → slice_get xs 0 ≡ Some 0 → slice_get ys 0 ≡ Some 0 → slice_get (merged xs ys) 0 ≡ Some 0
first_merged [] ys p q = cc
first_merged (x ∷ xs) [] p q = cc
first_merged (x ∷ xs) (y ∷ ys) p q =
    let same : x ≡ y = cc in
    ap (λ (l : List ℕ). slice_get l 0) (merged-same x y xs ys same) ∙ p

pub merged_refines : (xs ys : List ℕ) → AreStarts xs → AreStarts ys → IsRefinement xs ys (merged xs ys)
merged_refines xs ys a b =
    let r : IsRisingFrom 0 (merged xs ys) =
    rising_merged 0 xs ys (rising_from 0 xs (λ _. omega arith) a.rising a.below) (rising_from 0 ys (λ _. omega arith) b.rising b.below) in
    record {
      cuts = record { first = first_merged xs ys a.first b.first; rising = rising_increases 0 (merged xs ys) r; below = rising_below 0 (merged xs ys) r };
      members = merged_members xs ys;
    }

-- ---- the merge by steps
module _ (xs ys : List ℕ) (i j : ℕ) (all : List ℕ) (whole : all ++ merged (drop i xs) (drop j ys) ≡ merged xs ys) where
  pushed : (v : ℕ) (rest more : List ℕ) → more ≡ all ++ v ∷ [] → merged (drop i xs) (drop j ys) ≡ v ∷ rest → more ++ rest ≡ merged xs ys
  pushed v rest more is next =
      ap (λ (l : List ℕ). l ++ rest) is ∙ append_assoc all (v ∷ []) rest ∙ ap (λ (l : List ℕ). all ++ l) (sym next) ∙ whole

  module _ (left : i < length xs) (right : j < length ys) (v : ℕ) (more : List ℕ) (is : more ≡ all ++ v ∷ []) (least : v ≡ min (get_or xs i 0) (get_or ys j 0)) where
    head_x : drop i xs ≡ get_or xs i 0 ∷ drop (i + 1) xs
    head_x = rw (add-one i) (drop-cons xs i 0 left)

    head_y : drop j ys ≡ get_or ys j 0 ∷ drop (j + 1) ys
    head_y = rw (add-one j) (drop-cons ys j 0 right)

    heads : merged (drop i xs) (drop j ys) ≡ merged (get_or xs i 0 ∷ drop (i + 1) xs) (get_or ys j 0 ∷ drop (j + 1) ys)
    heads = ap (λ l. merged l (drop j ys)) head_x ∙ ap (merged (get_or xs i 0 ∷ drop (i + 1) xs)) head_y

    pub step_below : get_or xs i 0 < get_or ys j 0 → more ++ merged (drop (i + 1) xs) (drop j ys) ≡ merged xs ys
    step_below h =
        let value : get_or xs i 0 ≡ v = omega arith in
        pushed v (merged (drop (i + 1) xs) (drop j ys)) more is (
        heads ∙ merged-below (get_or xs i 0) (get_or ys j 0) (drop (i + 1) xs) (drop (j + 1) ys) h
        ∙ ap (λ w. w ∷ merged (drop (i + 1) xs) (get_or ys j 0 ∷ drop (j + 1) ys)) value
        ∙ ap (λ l. v ∷ merged (drop (i + 1) xs) l) (sym head_y)
        )

    pub step_above : get_or ys j 0 < get_or xs i 0 → more ++ merged (drop i xs) (drop (j + 1) ys) ≡ merged xs ys
    step_above h =
        let value : get_or ys j 0 ≡ v = omega arith in
        pushed v (merged (drop i xs) (drop (j + 1) ys)) more is (
        heads ∙ merged-above (get_or xs i 0) (get_or ys j 0) (drop (i + 1) xs) (drop (j + 1) ys) h
        ∙ ap (λ w. w ∷ merged (get_or xs i 0 ∷ drop (i + 1) xs) (drop (j + 1) ys)) value
        ∙ ap (λ l. v ∷ merged l (drop (j + 1) ys)) (sym head_x)
        )

    pub step_same : get_or xs i 0 ≡ get_or ys j 0 → more ++ merged (drop (i + 1) xs) (drop (j + 1) ys) ≡ merged xs ys
    step_same h =
        let value : get_or xs i 0 ≡ v = omega arith in
        pushed v (merged (drop (i + 1) xs) (drop (j + 1) ys)) more is (
        heads ∙ merged-same (get_or xs i 0) (get_or ys j 0) (drop (i + 1) xs) (drop (j + 1) ys) h
        ∙ ap (λ w. w ∷ merged (drop (i + 1) xs) (drop (j + 1) ys)) value
        )

  -- one list is at its end
  pub rest_right : length xs ≤ i → (all ++ drop i xs) ++ drop j ys ≡ merged xs ys
  rest_right h =
      let none = drop_all i xs h in
      ap (λ (l : List ℕ). (all ++ l) ++ drop j ys) none ∙ ap (λ (l : List ℕ). l ++ drop j ys) (append-nil all)
      ∙ ap (λ (l : List ℕ). all ++ l) (sym (merged-nil_left (drop j ys)) ∙ ap (λ l. merged l (drop j ys)) (sym none)) ∙ whole

  pub rest_left : length ys ≤ j → (all ++ drop i xs) ++ drop j ys ≡ merged xs ys
  rest_left h =
      let none = drop_all j ys h in
      ap (λ (l : List ℕ). (all ++ drop i xs) ++ l) none ∙ append-nil (all ++ drop i xs)
      ∙ ap (λ (l : List ℕ). all ++ l) (sym (merged-nil (drop i xs)) ∙ ap (merged (drop i xs)) (sym none)) ∙ whole

-- what is left of both lists follows, and one of them is at its end
pub finished : (xs ys : List ℕ) (i j : ℕ) (all front back : List ℕ) → all ++ merged (drop i xs) (drop j ys) ≡ merged xs ys
    → front ≡ all ++ take (length xs - i) (drop i xs) → back ≡ front ++ take (length ys - j) (drop j ys)
    → ((length xs ≤ i) ⊎ (length ys ≤ j)) → AreStarts xs → AreStarts ys → IsRefinement xs ys back
finished xs ys i j all front back whole one two ended a b =
    let rest_xs : take (length xs - i) (drop i xs) ≡ drop i xs = take_all (length xs - i) (drop i xs) (omega (arith, length-drop i xs)) in
    let rest_ys : take (length ys - j) (drop j ys) ≡ drop j ys = take_all (length ys - j) (drop j ys) (omega (arith, length-drop j ys)) in
    let joined : back ≡ (all ++ drop i xs) ++ drop j ys =
    two ∙ ap (λ (l : List ℕ). front ++ l) rest_ys ∙ ap (λ (l : List ℕ). l ++ drop j ys) (one ∙ ap (λ (l : List ℕ). all ++ l) rest_xs) in
    let done : (all ++ drop i xs) ++ drop j ys ≡ merged xs ys =
    elim ended [ inl h ↦ rest_right xs ys i j all whole h | inr h ↦ rest_left xs ys i j all whole h ] in
    subst (IsRefinement xs ys) (sym (joined ∙ done)) (merged_refines xs ys a b)

pub is_zero : (o : Option ℕ) → (option_eq eqb o (Some 0) ≡ true) ↔ (o ≡ Some 0)
is_zero None = (λ e. cc, λ e. cc)
is_zero (Some n) = (λ e. ap Some (eqb-true n 0 e), λ e. eq-eqb n 0 cc)
