-- Between two neighbouring cuts of a release a clause has one truth.
use Rattle.std.proofs.Common.{◌≡◌, ℕ, ◌+◌, ◌-◌, ◌^◌, ◌≤◌, ◌<◌, List, [], ◌∷◌, min, Bool, true, false, sym, ap, ◌∙◌, arith, ◌⊎◌, inl, inr, Equal}
use Rattle.std.specs.Prelude.{slice_index}
use Rattle.std.specs.Ordering.{nat_cmp}
use Rattle.std.proofs.lemmas.Bool.{cases_lt}
use Rattle.ul_specifier.specs.Clauses.{ClauseFields}
use Rattle.ul_comparison.specs.Truth.{python_numbers}
use Rattle.ul_tree.specs.Pieces.{packed_number, major_of, minor_of, patch_of, meets_at, digit, capped_number, cuts_at, cuts_of}
use Rattle.ul_nodes.proofs.ForCallers.{cmp_less, cmp_more}
use Rattle.ul_tree.proofs.Digits.{Alike, alike_meets, cmp_equal}

-- no start stands after one number and at or before another
abbrev pub Apart : ℕ → ℕ → ℕ → Type 0
Apart x y c = (c ≤ x) ⊎ (y < c)

abbrev pub EachApart : ℕ → ℕ → List ℕ → Type 0
EachApart x y [] = Unit {0}
EachApart x y (c ∷ cs) = Apart x y c × EachApart x y cs

-- ---- one number

same_cmp : (x y r : ℕ) → x ≤ y → Apart x y r → Apart x y (r + 1) → nat_cmp x r ≡ nat_cmp y r
same_cmp x y r h (inr below) b = cmp_less x r (omega arith) ∙ sym (cmp_less y r below)
same_cmp x y r h (inl at) (inl above) = cmp_more x r (omega arith) ∙ sym (cmp_more y r (omega arith))
same_cmp x y r h (inl at) (inr below) = let e : x ≡ y = omega arith in ap (λ z. nat_cmp z r) e

digit_cmp : (x y r : ℕ) → x ≤ y → y < 2 ^ 32 → Apart x y (min r (2 ^ 32 - 1)) → Apart x y (min r (2 ^ 32 - 1) + 1) → nat_cmp x r ≡ nat_cmp y r
digit_cmp x y r h fits a b = elim (cases_lt r (2 ^ 32)) [
  | inl small ↦ let e : min r (2 ^ 32 - 1) ≡ r = omega arith in same_cmp x y r h (rw e at a) (rw e at b)
  | inr large ↦ cmp_less x r (omega arith) ∙ sym (cmp_less y r (omega arith))
]

uncapped : (x y c : ℕ) → y < 2 ^ 96 → Apart x y (capped_number c) → Apart x y c
uncapped x y c fits h = elim (cases_lt c (2 ^ 96)) [
  | inl small ↦ let e : capped_number c ≡ c = omega arith in rw e at h
  | inr large ↦ inr (omega arith)
]

-- ---- three numbers

-- what is asked of two interpreters: their numbers fit, and the first isn't after the second
record Two (a b c i j k : ℕ) : Type 0 where
  b_fits : b < 2 ^ 32
  c_fits : c < 2 ^ 32
  i_fits : i < 2 ^ 32
  j_fits : j < 2 ^ 32
  k_fits : k < 2 ^ 32
  ordered : packed_number a b c ≤ packed_number i j k

major_le : (a b c i j k : ℕ) → Two a b c i j k → a ≤ i
major_le a b c i j k t = omega arith

major_at : (a b c i j k d : ℕ) → Two a b c i j k → Apart (packed_number a b c) (packed_number i j k) (packed_number d 0 0) → Apart a i d
major_at a b c i j k d t (inl at) = inl (omega arith)
major_at a b c i j k d t (inr below) = inr (omega arith)

major_after : (a b c i j k d : ℕ) → Two a b c i j k → Apart (packed_number a b c) (packed_number i j k) (capped_number (packed_number d 0 0 + 2 ^ 64)) → Apart a i (d + 1)
major_after a b c i j k d t h = go (uncapped (packed_number a b c) (packed_number i j k) (packed_number d 0 0 + 2 ^ 64) (omega arith) h)
  where
    go : Apart (packed_number a b c) (packed_number i j k) (packed_number d 0 0 + 2 ^ 64) → Apart a i (d + 1)
    go (inl at) = inl (omega arith)
    go (inr below) = inr (omega arith)

minor_le : (a b c i j k d : ℕ) → Two a b c i j k → a ≡ d → i ≡ d → b ≤ j
minor_le a b c i j k d t p q = omega arith

minor_at : (a b c i j k d e : ℕ) → Two a b c i j k → a ≡ d → i ≡ d → Apart (packed_number a b c) (packed_number i j k) (packed_number d e 0) → Apart b j e
minor_at a b c i j k d e t p q (inl at) = inl (omega arith)
minor_at a b c i j k d e t p q (inr below) = inr (omega arith)

minor_after : (a b c i j k d e : ℕ) → Two a b c i j k → a ≡ d → i ≡ d → Apart (packed_number a b c) (packed_number i j k) (capped_number (packed_number d e 0 + 2 ^ 32)) → Apart b j (e + 1)
minor_after a b c i j k d e t p q h = go (uncapped (packed_number a b c) (packed_number i j k) (packed_number d e 0 + 2 ^ 32) (omega arith) h)
  where
    go : Apart (packed_number a b c) (packed_number i j k) (packed_number d e 0 + 2 ^ 32) → Apart b j (e + 1)
    go (inl at) = inl (omega arith)
    go (inr below) = inr (omega arith)

patch_le : (a b c i j k d e : ℕ) → Two a b c i j k → a ≡ d → i ≡ d → b ≡ e → j ≡ e → c ≤ k
patch_le a b c i j k d e t p q r s = omega arith

patch_at : (a b c i j k d e g : ℕ) → Two a b c i j k → a ≡ d → i ≡ d → b ≡ e → j ≡ e → Apart (packed_number a b c) (packed_number i j k) (packed_number d e g) → Apart c k g
patch_at a b c i j k d e g t p q r s (inl at) = inl (omega arith)
patch_at a b c i j k d e g t p q r s (inr below) = inr (omega arith)

patch_after : (a b c i j k d e g : ℕ) → Two a b c i j k → a ≡ d → i ≡ d → b ≡ e → j ≡ e → Apart (packed_number a b c) (packed_number i j k) (capped_number (packed_number d e g + 1)) → Apart c k (g + 1)
patch_after a b c i j k d e g t p q r s h = go (uncapped (packed_number a b c) (packed_number i j k) (packed_number d e g + 1) (omega arith) h)
  where
    go : Apart (packed_number a b c) (packed_number i j k) (packed_number d e g + 1) → Apart c k (g + 1)
    go (inl at) = inl (omega arith)
    go (inr below) = inr (omega arith)

-- ---- a release

abbrev low : ℕ → ℕ
low r = min r (2 ^ 32 - 1)

-- two interpreters compare alike with three numbers, as long as those before are equal
record AlikeThree (r s u a b c i j k : ℕ) : Type 0 where
  first : nat_cmp a r ≡ nat_cmp i r
  second : nat_cmp a r ≡ Equal → nat_cmp b s ≡ nat_cmp j s
  third : nat_cmp a r ≡ Equal → nat_cmp b s ≡ Equal → nat_cmp c u ≡ nat_cmp k u

low_is : (x r : ℕ) → x < 2 ^ 32 → x ≡ r → x ≡ low r
low_is x r h e = omega arith

alike_three : (r s u a b c i j k : ℕ) → Two a b c i j k → a < 2 ^ 32 → EachApart (packed_number a b c) (packed_number i j k) (cuts_at (low r) (low s) (low u)) → AlikeThree r s u a b c i j k
alike_three r s u a b c i j k t fits h = record { first = one; second = two; third = three }
  where
    one : nat_cmp a r ≡ nat_cmp i r
    one = digit_cmp a i r (major_le a b c i j k t) t.i_fits (major_at a b c i j k (low r) t h.0) (major_after a b c i j k (low r) t h.1.1.1.1.1.0)

    is_a : nat_cmp a r ≡ Equal → a ≡ low r
    is_a e = low_is a r fits (cmp_equal a r e)

    is_i : nat_cmp a r ≡ Equal → i ≡ low r
    is_i e = low_is i r t.i_fits (cmp_equal i r (sym one ∙ e))

    two : nat_cmp a r ≡ Equal → nat_cmp b s ≡ nat_cmp j s
    two e =
        digit_cmp b j s (minor_le a b c i j k (low r) t (is_a e) (is_i e)) t.j_fits
        (minor_at a b c i j k (low r) (low s) t (is_a e) (is_i e) h.1.0) (minor_after a b c i j k (low r) (low s) t (is_a e) (is_i e) h.1.1.1.1.0)

    three : nat_cmp a r ≡ Equal → nat_cmp b s ≡ Equal → nat_cmp c u ≡ nat_cmp k u
    three e f =
        let is_b : b ≡ low s = low_is b s t.b_fits (cmp_equal b s f) in
        let is_j : j ≡ low s = low_is j s t.j_fits (cmp_equal j s (sym (two e) ∙ f)) in
        digit_cmp c k u (patch_le a b c i j k (low r) (low s) t (is_a e) (is_i e) is_b is_j) t.k_fits
        (patch_at a b c i j k (low r) (low s) (low u) t (is_a e) (is_i e) is_b is_j h.1.1.0)
        (patch_after a b c i j k (low r) (low s) (low u) t (is_a e) (is_i e) is_b is_j h.1.1.1.0)

alike_release : (R : List ℕ) (full : Bool) (a b c i j k : ℕ) → AlikeThree (slice_index R 0) (slice_index R 1) (slice_index R 2) a b c i j k
    → Alike R (python_numbers full a b c) (python_numbers full i j k)
alike_release [] true a b c i j k h = (h.first, λ e. (h.second e, λ f. (h.third e f, λ g. tt)))
alike_release [] false a b c i j k h = (h.first, λ e. (h.second e, λ f. tt))
alike_release (r ∷ []) true a b c i j k h = (h.first, λ e. (h.second e, λ f. (h.third e f, λ g. tt)))
alike_release (r ∷ []) false a b c i j k h = (h.first, λ e. (h.second e, λ f. tt))
alike_release (r ∷ s ∷ []) true a b c i j k h = (h.first, λ e. (h.second e, λ f. (h.third e f, λ g. tt)))
alike_release (r ∷ s ∷ []) false a b c i j k h = (h.first, λ e. (h.second e, λ f. tt))
alike_release (r ∷ s ∷ u ∷ rest) true a b c i j k h = (h.first, λ e. (h.second e, λ f. (h.third e f, λ g. tt)))
alike_release (r ∷ s ∷ u ∷ rest) false a b c i j k h = (h.first, λ e. (h.second e, λ f. tt))

-- the number of an interpreter is that of its three numbers
pub number_back : (n : ℕ) → n < 2 ^ 96 → packed_number (major_of n) (minor_of n) (patch_of n) ≡ n
number_back n h = omega arith

pub meets_steady : (s : ClauseFields) (full : Bool) (x y : ℕ) → x ≤ y → y < 2 ^ 96 → EachApart x y (cuts_of s.version.release) → meets_at s full x ≡ meets_at s full y
unfolding cuts_of meets_at
meets_steady s full x y ordered fits h =
    let R = s.version.release in
    let ex = number_back x (omega arith) in
    let ey = number_back y fits in
    let t : Two (major_of x) (minor_of x) (patch_of x) (major_of y) (minor_of y) (patch_of y) = record {
      b_fits = omega arith;
      c_fits = omega arith;
      i_fits = omega arith;
      j_fits = omega arith;
      k_fits = omega arith;
      ordered = rw (ex, ey) ordered;
    } in
    let apart : EachApart (packed_number (major_of x) (minor_of x) (patch_of x)) (packed_number (major_of y) (minor_of y) (patch_of y)) (cuts_at (digit R 0) (digit R 1) (digit R 2)) = rw (ex, ey) h in
    alike_meets s _ _ (alike_release R full _ _ _ _ _ _
    (alike_three (slice_index R 0) (slice_index R 1) (slice_index R 2) (major_of x) (minor_of x) (patch_of x) (major_of y) (minor_of y) (patch_of y) t (omega arith) apart))
