-- Laws of sets in blocks of 64 bits.
use Rattle.std.proofs.Common.{◌≡◌, ℕ, zero, suc, List, [], ◌∷◌, Bool, true, false, cond, refl, ap, ◌∙◌, sym, get_or, ◌+◌, ◌-◌, ◌*◌, ◌/◌, ◌%◌, ◌^◌, ◌<◌, ◌≤◌, length, arith, eqb, inl, inr, w64, replicate, zero-add, lit<, set, nat_lt}
use Rattle.std.specs.Prelude.{bit_and, bit_or, map, zip, min, max, ◌↔◌, ◌&&◌, ◌||◌, All, ◌++◌}
use Rattle.std.specs.Int.{bit_at, bit_not}
use Rattle.std.specs.List.{range_with_len, list_all, list_any}
use Rattle.std.proofs.lemmas.Bool.{cases_lt, eqb-true, eq-eqb, cases_eq, ne_eqb, or_right, and_parts, lt-ltb, le-ltb}
use Rattle.std.proofs.lemmas.Bool.Decides.{same_from_decides, Decides-like, Decides-eqb}
use Rattle.std.proofs.lemmas.List.Folds.{list_any-append, list_any_none}
use Rattle.std.proofs.Math.Nat.{mod-lt}
use Rattle.std.proofs.lemmas.List.{ext_get_or, get_or_past, get_or-replicate, length-replicate, get_or-set_same, get_or-set_other, get_or_default, length-set}
use Rattle.std.proofs.lemmas.List.FromFn.{length-map-range_with_len, get_or-map-range_with_len}
use Rattle.std.proofs.lemmas.Nat.{and_le_l, or_lt, pow_below}
use Rattle.std.proofs.lemmas.Nat.Bits.{bit_at_and, bit_at_or, bit_at_not, bit_at-lt, bit_at-zero, bit_at_set_same, bit_at_set_other, bit_at_ones, bit_at_ones_above, shr_and_one, same_from_bits_below}
use Rattle.ul_ranges.specs.Operations.{word_by, flag_by}
use Rattle.ul_ranges.specs.declared.words.Operation.{Operation}
use Rattle.ul_ranges.specs.declared.words.Operation.TheVariants.{Meet, Join, Less}
use Rattle.ul_ranges.specs.Flags.{has, set_of}
use Rattle.ul_ranges.specs.Blocks.{flag, flag_at, flags_of, block_count, IsExact}
use Rattle.ul_ranges.specs.Marks.{HasMarked, front_word}
use Rattle.ul_ranges.proofs.FlagLaws.{same_sets}

-- ---- one bit
min_flag : (a b : ℕ) → a < 2 → b < 2 → eqb (min a b) 1 ≡ cond (eqb a 1) (eqb b 1) false
min_flag zero zero p q = refl
min_flag zero (suc zero) p q = refl
min_flag zero (suc (suc b)) p q = absurd (omega arith)
min_flag (suc zero) zero p q = refl
min_flag (suc zero) (suc zero) p q = refl
min_flag (suc zero) (suc (suc b)) p q = absurd (omega arith)
min_flag (suc (suc a)) b p q = absurd (omega arith)

max_flag : (a b : ℕ) → a < 2 → b < 2 → eqb (max a b) 1 ≡ cond (eqb a 1) true (eqb b 1)
max_flag zero zero p q = refl
max_flag zero (suc zero) p q = refl
max_flag zero (suc (suc b)) p q = absurd (omega arith)
max_flag (suc zero) zero p q = refl
max_flag (suc zero) (suc zero) p q = refl
max_flag (suc zero) (suc (suc b)) p q = absurd (omega arith)
max_flag (suc (suc a)) b p q = absurd (omega arith)

less_flag : (a b : ℕ) → a < 2 → b < 2 → eqb (min a (1 - b)) 1 ≡ cond (eqb b 1) false (eqb a 1)
less_flag zero zero p q = refl
less_flag zero (suc zero) p q = refl
less_flag zero (suc (suc b)) p q = absurd (omega arith)
less_flag (suc zero) zero p q = refl
less_flag (suc zero) (suc zero) p q = refl
less_flag (suc zero) (suc (suc b)) p q = absurd (omega arith)
less_flag (suc (suc a)) b p q = absurd (omega arith)

flag_is : (a b : ℕ) → a < 2 → b < 2 → eqb a 1 ≡ eqb b 1 → a ≡ b
flag_is zero zero p q e = refl
flag_is zero (suc zero) p q e = cc
flag_is zero (suc (suc b)) p q e = absurd (omega arith)
flag_is (suc zero) zero p q e = cc
flag_is (suc zero) (suc zero) p q e = refl
flag_is (suc zero) (suc (suc b)) p q e = absurd (omega arith)
flag_is (suc (suc a)) b p q e = absurd (omega arith)

-- ---- one word
pub flag-zero : (i : ℕ) → flag 0 i ≡ false
unfolding flag
flag-zero i = ap (λ v. eqb v 1) (bit_at-zero i)

pub flag-and : (x y i : ℕ) → flag (bit_and x y) i ≡ cond (flag x i) (flag y i) false
unfolding flag
flag-and x y i = ap (λ v. eqb v 1) (bit_at_and x y i) ∙ min_flag (bit_at x i) (bit_at y i) (bit_at-lt x i) (bit_at-lt y i)

pub flag-or : (x y i : ℕ) → flag (bit_or x y) i ≡ cond (flag x i) true (flag y i)
unfolding flag
flag-or x y i = ap (λ v. eqb v 1) (bit_at_or x y i) ∙ max_flag (bit_at x i) (bit_at y i) (bit_at-lt x i) (bit_at-lt y i)

pub flag-and_not : (x y i : ℕ) → y < 2 ^ 64 → i < 64 → flag (bit_and x (bit_not w64 y)) i ≡ cond (flag y i) false (flag x i)
unfolding flag
flag-and_not x y i fits within =
    ap (λ v. eqb v 1) (bit_at_and x (bit_not w64 y) i ∙ ap (λ v. min (bit_at x i) v) (bit_at_not w64 y i fits within))
    ∙ less_flag (bit_at x i) (bit_at y i) (bit_at-lt x i) (bit_at-lt y i)

pub flag-true : (x i : ℕ) → (bit_at x i ≡ 1) ↔ (flag x i ≡ true)
unfolding flag
flag-true x i = (λ e. eq-eqb (bit_at x i) 1 e, λ e. eqb-true (bit_at x i) 1 e)

-- two words with the same flags are equal
pub same_word : (x y : ℕ) → x < 2 ^ 64 → y < 2 ^ 64 → ((i : ℕ) → i < 64 → flag x i ≡ flag y i) → x ≡ y
unfolding flag
same_word x y p q h =
    same_from_bits_below 64 x y p q (λ i within. flag_is (bit_at x i) (bit_at y i) (bit_at-lt x i) (bit_at-lt y i) (h i within))

-- ---- a list of words
pub flag_at-place : (bs : List ℕ) (j i : ℕ) → i < 64 → flag_at bs (64 * j + i) ≡ flag (get_or bs j 0) i
unfolding flag_at
flag_at-place bs j i within =
    let d : (64 * j + i) / 64 ≡ j = omega arith in
    let r : (64 * j + i) % 64 ≡ i = omega arith in cc

pub length-flags_of : (size : ℕ) (bs : List ℕ) → length (flags_of size bs) ≡ size
unfolding flags_of
length-flags_of size bs = length-map-range_with_len (λ k. flag_at bs k) 0 size

flag_within : (size : ℕ) (bs : List ℕ) (k : ℕ) → k < size → has k (flags_of size bs) ≡ flag_at bs k
unfolding flags_of
flag_within size bs k h = get_or-map-range_with_len (λ k. flag_at bs k) 0 size k k false h (zero-add k)

pub has-flags_of : (size : ℕ) (bs : List ℕ) → IsExact size bs → (k : ℕ) → has k (flags_of size bs) ≡ flag_at bs k
has-flags_of size bs exact k =
    elim (cases_lt k size) [
      | inl h ↦ flag_within size bs k h
      | inr h ↦ get_or_past (flags_of size bs) k false (let e = length-flags_of size bs in omega arith) ∙ sym (exact.clear k h)
    ]

-- ---- an operation word by word
pub word_at : (op : ℕ → ℕ → ℕ) → op 0 0 ≡ 0 → (a b : List ℕ) → length a ≡ length b
    → (j : ℕ) → get_or (map (λ (p : ℕ × ℕ). op p.0 p.1) (zip a b)) j 0 ≡ op (get_or a j 0) (get_or b j 0)
word_at op z [] [] e j = sym z
word_at op z [] (y ∷ ys) e j = cc
word_at op z (x ∷ xs) [] e j = cc
word_at op z (x ∷ xs) (y ∷ ys) e zero = refl
word_at op z (x ∷ xs) (y ∷ ys) e (suc j) = word_at op z xs ys (cc) j

pub word_count : (op : ℕ → ℕ → ℕ) (a b : List ℕ) → length a ≡ length b → length (map (λ (p : ℕ × ℕ). op p.0 p.1) (zip a b)) ≡ length a
word_count op [] [] e = refl
word_count op [] (y ∷ ys) e = cc
word_count op (x ∷ xs) [] e = cc
word_count op (x ∷ xs) (y ∷ ys) e = ap suc (word_count op xs ys cc)

-- two sets of one size in blocks
pub record Paired (m n : ℕ) (a b : List ℕ) (s t : List Bool) : Type 0 where
  pub left : IsExact m a
  pub right : IsExact n b
  pub left_is : flags_of m a ≡ s
  pub right_is : flags_of n b ≡ t
  pub sizes : length s ≡ length t

-- an operation on words that is one on flags
pub record IsFlagwise (op : ℕ → ℕ → ℕ) (f : Bool → Bool → Bool) : Type 0 where
  pub nothing : op 0 0 ≡ 0
  pub no_flag : f false false ≡ false
  pub fits : (x y : ℕ) → x < 2 ^ 64 → y < 2 ^ 64 → op x y < 2 ^ 64
  pub each : (x y i : ℕ) → y < 2 ^ 64 → i < 64 → flag (op x y) i ≡ f (flag x i) (flag y i)

pub and_flagwise : IsFlagwise bit_and (λ x y. cond x y false)
and_flagwise = record { nothing = refl; no_flag = refl; fits = λ x y h _. let e = and_le_l x y in omega arith; each = λ x y i _ _. flag-and x y i }

pub or_flagwise : IsFlagwise bit_or (λ x y. cond x true y)
or_flagwise = record { nothing = refl; no_flag = refl; fits = λ x y g h. or_lt 64 x y g h; each = λ x y i _ _. flag-or x y i }

pub less_flagwise : IsFlagwise (λ x y. bit_and x (bit_not w64 y)) (λ x y. cond y false x)
less_flagwise = record { nothing = refl; no_flag = refl; fits = λ x y h _. let e = and_le_l x (bit_not w64 y) in omega arith; each = λ x y i h l. flag-and_not x y i h l }

pub by_flagwise : (o : Operation) → IsFlagwise (word_by o) (flag_by o)
by_flagwise Meet = and_flagwise
by_flagwise Join = or_flagwise
by_flagwise Less = less_flagwise

module _ (m n : ℕ) (a b : List ℕ) (s t : List Bool) (p : Paired m n a b s t) where
  size_of_left : length s ≡ m
  size_of_left = ap length (sym p.left_is) ∙ length-flags_of m a

  one_size : m ≡ n
  one_size = sym size_of_left ∙ p.sizes ∙ ap length (sym p.right_is) ∙ length-flags_of n b

  one_count : length a ≡ length b
  one_count = p.left.count ∙ ap block_count one_size ∙ sym p.right.count

  module _ (op : ℕ → ℕ → ℕ) (f : Bool → Bool → Bool) (w : IsFlagwise op f) where
    zipped_flag : (k : ℕ) → flag_at (map (λ (p : ℕ × ℕ). op p.0 p.1) (zip a b)) k ≡ f (flag_at a k) (flag_at b k)
    unfolding flag_at
    zipped_flag k =
        ap (λ v. flag v (k % 64)) (word_at op w.nothing a b one_count (k / 64))
        ∙ w.each (get_or a (k / 64) 0) (get_or b (k / 64) 0) (k % 64) (p.right.words (k / 64)) (omega arith)

    zipped_exact : IsExact m (map (λ (p : ℕ × ℕ). op p.0 p.1) (zip a b))
    zipped_exact = record {
      count = word_count op a b one_count ∙ p.left.count;
      words = λ j. rw (word_at op w.nothing a b one_count j) (w.fits (get_or a j 0) (get_or b j 0) (p.left.words j) (p.right.words j));
      clear = λ k h.
          let l = p.left.clear k h in
          let r = p.right.clear k (let e = one_size in omega arith) in
          zipped_flag k ∙ rw (l, r) w.no_flag;
    }

    zipped_has : (k : ℕ) → has k (flags_of m (map (λ (p : ℕ × ℕ). op p.0 p.1) (zip a b))) ≡ f (has k s) (has k t)
    zipped_has k =
        let l : has k s ≡ flag_at a k = ap (has k) (sym p.left_is) ∙ has-flags_of m a p.left k in
        let r : has k t ≡ flag_at b k = ap (has k) (sym p.right_is) ∙ has-flags_of n b p.right k in
        has-flags_of m (map (λ (p : ℕ × ℕ). op p.0 p.1) (zip a b)) zipped_exact k ∙ zipped_flag k ∙ rw (l, r)

    zipped : (g : List Bool → List Bool → List Bool) → (length (g s t) ≡ length s) → ((k : ℕ) → has k (g s t) ≡ f (has k s) (has k t))
        → (r : List ℕ) → r ≡ map (λ (p : ℕ × ℕ). op p.0 p.1) (zip a b) → IsExact m r × (flags_of m r ≡ g s t)
    zipped g long each r e =
        rw e (
          zipped_exact,
          same_sets _ (g s t)
              (length-flags_of m (map (λ (p : ℕ × ℕ). op p.0 p.1) (zip a b)) ∙ sym size_of_left ∙ sym long)
              (λ k. zipped_has k ∙ sym (each k)),
        )

-- an operation word by word on the blocks of two sets of one size
zip_pair : (size : ℕ) (xs ys : List ℕ) → IsExact size xs → IsExact size ys → Paired size size xs ys (flags_of size xs) (flags_of size ys)
zip_pair size xs ys a b = record { left = a; right = b; left_is = refl; right_is = refl; sizes = length-flags_of size xs ∙ sym (length-flags_of size ys) }

pub zip_flag : (size : ℕ) (xs ys : List ℕ) (op : ℕ → ℕ → ℕ) (f : Bool → Bool → Bool) → IsFlagwise op f → IsExact size xs → IsExact size ys
    → (k : ℕ) → flag_at (map (λ (p : ℕ × ℕ). op p.0 p.1) (zip xs ys)) k ≡ f (flag_at xs k) (flag_at ys k)
zip_flag size xs ys op f w a b k = zipped_flag size size xs ys (flags_of size xs) (flags_of size ys) (zip_pair size xs ys a b) op f w k

pub zip_exact : (size : ℕ) (xs ys : List ℕ) (op : ℕ → ℕ → ℕ) (f : Bool → Bool → Bool) → IsFlagwise op f → IsExact size xs → IsExact size ys
    → IsExact size (map (λ (p : ℕ × ℕ). op p.0 p.1) (zip xs ys))
zip_exact size xs ys op f w a b = zipped_exact size size xs ys (flags_of size xs) (flags_of size ys) (zip_pair size xs ys a b) op f w

-- ---- emptiness
pub all_zero : (xs : List ℕ) → list_all (λ x. eqb x 0) xs ≡ true → (j : ℕ) → get_or xs j 0 ≡ 0
all_zero [] h j = refl
all_zero (x ∷ xs) h zero = eqb-true x 0 (and_parts (eqb x 0) (list_all (λ x. eqb x 0) xs) h).0
all_zero (x ∷ xs) h (suc j) = all_zero xs (and_parts (eqb x 0) (list_all (λ x. eqb x 0) xs) h).1 j

zero_all : (xs : List ℕ) → ((j : ℕ) → get_or xs j 0 ≡ 0) → list_all (λ x. eqb x 0) xs ≡ true
zero_all [] h = refl
zero_all (x ∷ xs) h = rw (eq-eqb x 0 (h 0)) (zero_all xs (λ j. h (suc j)))

pub all_clear : (a : List ℕ) → list_all (λ x. eqb x 0) a ≡ true → (k : ℕ) → flag_at a k ≡ false
unfolding flag_at
all_clear a h k = ap (λ v. flag v (k % 64)) (all_zero a h (k / 64)) ∙ flag-zero (k % 64)

pub clear_all : (size : ℕ) (a : List ℕ) → IsExact size a → ((k : ℕ) → flag_at a k ≡ false) → list_all (λ x. eqb x 0) a ≡ true
clear_all size a exact c = zero_all a (λ j. same_word (get_or a j 0) 0 (exact.words j) (lit< tt)
    (λ i h. sym (flag_at-place a j i h) ∙ c (64 * j + i) ∙ sym (flag-zero i)))

-- ---- inclusion
pub all_of_map : (op : ℕ × ℕ → ℕ) (ps : List (ℕ × ℕ)) → list_all (λ p. eqb (op p) 0) ps ≡ list_all (λ x. eqb x 0) (map op ps)
all_of_map op [] = refl
all_of_map op (p ∷ ps) = ap (λ b. eqb (op p) 0 && b) (all_of_map op ps)

-- ---- a set made of a list of its members
pub or_false : (b : Bool) → (b || false) ≡ b
or_false true = refl
or_false false = refl

zeros : (n j : ℕ) → ◌≡◌ {A = ℕ} (get_or (replicate n 0) j 0) 0
zeros n j =
    elim (cases_lt j n) [
      | inl h ↦ get_or-replicate n j 0 0 h
      | inr h ↦ get_or_past (replicate n 0) j 0 (let e = length-replicate {A = ℕ} n 0 in omega arith)
    ]

-- no bit is set at the start
pub unmarked : (size : ℕ) (bs : List ℕ) (n : ℕ) → n ≡ block_count size → bs ≡ replicate n 0 → HasMarked size bs []
unfolding flag_at
unmarked size bs n count is = rw is (record {
  count = length-replicate n 0 ∙ count;
  words = λ j. rw (zeros n j) (lit< tt);
  flags = λ k. ap (λ v. flag v (k % 64)) (zeros n (k / 64)) ∙ flag-zero (k % 64);
})

-- bit b of a word is set
pub word_marked : (w b i : ℕ) → b < 64 → i < 64 → flag (bit_or w (1 * 2 ^ b % 2 ^ 64)) i ≡ (flag w i || eqb b i)
unfolding flag
word_marked w b i h l =
    elim (cases_eq i b) [
      | inl e ↦
          let set : bit_at (bit_or w (1 * 2 ^ b % 2 ^ 64)) b ≡ 1 = bit_at_set_same w64 w b h in
          rw (e, set, eq-eqb b b refl) (sym (or_right (eqb (bit_at w b) 1) true refl))
      | inr ne ↦
          let kept : bit_at (bit_or w (1 * 2 ^ b % 2 ^ 64)) i ≡ bit_at w i = bit_at_set_other w64 w b h i ne in
          rw (kept, ne_eqb b i (λ e. ne (sym e))) (sym (or_false (eqb (bit_at w i) 1)))
    ]

marked_flag : (bs : List ℕ) (m w k : ℕ) → m / 64 < length bs → w ≡ get_or bs (m / 64) 0
    → flag_at (set bs (m / 64) (bit_or w (1 * 2 ^ (m % 64) % 2 ^ 64))) k ≡ (flag_at bs k || eqb m k)
unfolding flag_at
marked_flag bs m w k inside was =
    elim (cases_eq (k / 64) (m / 64)) [
      | inl e ↦
          let one : eqb (m % 64) (k % 64) ≡ eqb m k = same_from_decides (eqb (m % 64) (k % 64)) (eqb m k)
          (Decides-like (eqb (m % 64) (k % 64)) (λ h. omega arith) (λ h. omega arith) (Decides-eqb (m % 64) (k % 64))) (Decides-eqb m k) in
          rw (e, get_or-set_same bs (m / 64) (bit_or w (1 * 2 ^ (m % 64) % 2 ^ 64)) 0 inside, ← was)
          (word_marked w (m % 64) (k % 64) (omega arith) (omega arith) ∙ ap (λ b. flag w (k % 64) || b) one)
      | inr ne ↦
          rw (get_or-set_other bs (m / 64) (k / 64) (bit_or w (1 * 2 ^ (m % 64) % 2 ^ 64)) 0 ne, ne_eqb m k (λ h. ne (ap (λ v. v / 64) (sym h))))
          (sym (or_false (flag (get_or bs (k / 64) 0) (k % 64))))
    ]

pub marked : (size : ℕ) (bs ms : List ℕ) (m w : ℕ) → m < size → HasMarked size bs ms → w ≡ get_or bs (m / 64) w
    → HasMarked size (set bs (m / 64) (bit_or w (1 * 2 ^ (m % 64) % 2 ^ 64))) (ms ++ m ∷ [])
marked size bs ms m w within h is =
    let inside : m / 64 < length bs = let e = h.count in omega arith in
    let was : w ≡ get_or bs (m / 64) 0 = is ∙ get_or_default bs (m / 64) w 0 inside in
    record {
      count = length-set bs (m / 64) (bit_or w (1 * 2 ^ (m % 64) % 2 ^ 64)) ∙ h.count;
      words = λ j. elim (cases_eq j (m / 64)) [
        | inl e ↦ rw (e, get_or-set_same bs (m / 64) (bit_or w (1 * 2 ^ (m % 64) % 2 ^ 64)) 0 inside)
            (or_lt 64 w (1 * 2 ^ (m % 64) % 2 ^ 64) (rw was (h.words (m / 64))) (mod-lt (1 * 2 ^ (m % 64)) (lit< tt)))
        | inr ne ↦ rw (get_or-set_other bs (m / 64) j (bit_or w (1 * 2 ^ (m % 64) % 2 ^ 64)) 0 ne) (h.words j)
      ];
      flags = λ k. marked_flag bs m w k inside was ∙ ap (λ b. b || eqb m k) (h.flags k)
          ∙ ap (λ b. list_any (λ m. eqb m k) ms || b) (sym (or_false (eqb m k))) ∙ sym (list_any-append (λ m. eqb m k) ms (m ∷ []));
    }

-- the set that the blocks are
pub of_marked : (size : ℕ) (bs ms : List ℕ) → All (λ m. m < size) ms → HasMarked size bs ms → IsExact size bs × (flags_of size bs ≡ set_of size ms)
unfolding set_of
of_marked size bs ms all h = (
  record { count = h.count; words = h.words; clear = λ k past. h.flags k ∙ list_any_none (λ m. eqb m k) ms (λ j d l. ne_eqb (get_or ms j d) k (let e = all j d l in λ q. absurd (omega arith))) },
  ext_get_or false (flags_of size bs) (map (λ k. list_any (λ m. eqb m k) ms) (range_with_len 0 size))
      (length-flags_of size bs ∙ sym (length-map-range_with_len (λ k. list_any (λ m. eqb m k) ms) 0 size))
      (λ k l. let l2 : k < size = let e = length-flags_of size bs in omega arith in
      flag_within size bs k l2 ∙ h.flags k ∙ sym (get_or-map-range_with_len (λ k. list_any (λ m. eqb m k) ms) 0 size k k false l2 (zero-add k))),
)

-- ---- a member
pub flag_read : (bs : List ℕ) (k w : ℕ) → w ≡ get_or bs (k / 64) 0 → eqb (bit_and (w / 2 ^ (k % 64)) 1) 1 ≡ flag_at bs k
unfolding flag_at flag
flag_read bs k w e = ap (λ v. eqb v 1) (shr_and_one w (k % 64)) ∙ ap (λ v. eqb (bit_at v (k % 64)) 1) e

pub flag_unread : (bs : List ℕ) (k : ℕ) → length bs ≤ k / 64 → false ≡ flag_at bs k
unfolding flag_at
flag_unread bs k past = sym (ap (λ v. flag v (k % 64)) (get_or_past bs (k / 64) 0 past) ∙ flag-zero (k % 64))

pub bit_read : (w k : ℕ) → eqb (bit_and (w / 2 ^ k) 1) 1 ≡ flag w k
unfolding flag
bit_read w k = ap (λ v. eqb v 1) (shr_and_one w k)

-- ---- the bits below a count
pub ones_below : (b i : ℕ) → i < b → flag (2 ^ b - 1) i ≡ true
unfolding flag
ones_below b i h = eq-eqb (bit_at (2 ^ b - 1) i) 1 (bit_at_ones b i h)

pub ones_above : (b i : ℕ) → b ≤ i → flag (2 ^ b - 1) i ≡ false
unfolding flag
ones_above b i h = ap (λ v. eqb v 1) (bit_at_ones_above b i h)

pub low_mask : (b : ℕ) → b < 64 → 1 * 2 ^ b % 2 ^ 64 - 1 ≡ 2 ^ b - 1
low_mask b h = let p = pow_below b 64 h in omega arith

pub flag-front_word : (count place i : ℕ) → i < 64 → flag (front_word count place) i ≡ nat_lt (64 * place + i) count
flag-front_word count place i l = elim (cases_lt (64 * place + i) count) [
  | inl a ↦ ones_below (min (count - 64 * place) 64) i (below a) ∙ sym (lt-ltb (64 * place + i) count a)
  | inr a ↦ ones_above (min (count - 64 * place) 64) i (above a) ∙ sym (le-ltb (64 * place + i) count a)
]
  where
    below : 64 * place + i < count → i < min (count - 64 * place) 64
    below a = omega (arith, a, l)

    above : count ≤ 64 * place + i → min (count - 64 * place) 64 ≤ i
    above a = omega (arith, a)

pub flag-first_word : (count i : ℕ) → i < 64 → flag (front_word count 0) i ≡ nat_lt i count
flag-first_word count i l =
    let e : 64 * 0 + i ≡ i = omega arith in
    flag-front_word count 0 i l ∙ ap (λ (v : ℕ). nat_lt v count) e

pub front_word_fits : (count place : ℕ) → front_word count place < 2 ^ 64
front_word_fits count place = fits (min (count - 64 * place) 64) (omega arith)
  where
    fits : (n : ℕ) → n ≤ 64 → 2 ^ n - 1 < 2 ^ 64
    fits n l = elim (cases_lt n 64) [
      | inl a ↦ (let p = pow_below n 64 a in omega arith)
      | inr a ↦ (let e : n ≡ 64 = omega arith in rw e (lit< tt))
    ]

-- the blocks of the numbers below a count
pub flag_at-front : (size count k : ℕ) (bs : List ℕ) → count ≤ size → bs ≡ map (λ j. front_word count j) (range_with_len 0 (block_count size))
    → flag_at bs k ≡ nat_lt k count
unfolding flag_at
flag_at-front size count k bs c is = elim (cases_lt (k / 64) (block_count size)) [
  | inl l ↦
      let whole : 64 * (k / 64) + k % 64 ≡ k = omega arith in
      ap (λ (b : List ℕ). flag (get_or b (k / 64) 0) (k % 64)) is
      ∙ ap (λ (v : ℕ). flag v (k % 64)) (get_or-map-range_with_len (λ j. front_word count j) 0 (block_count size) (k / 64) (k / 64) 0 l (zero-add (k / 64)))
      ∙ flag-front_word count (k / 64) (k % 64) (omega arith)
      ∙ ap (λ (v : ℕ). nat_lt v count) whole
  | inr l ↦
      let n : length bs ≡ block_count size = ap length is ∙ length-map-range_with_len (λ j. front_word count j) 0 (block_count size) in
      ap (λ (v : ℕ). flag v (k % 64)) (get_or_past bs (k / 64) 0 (omega (arith, n, l))) ∙ flag-zero (k % 64) ∙ sym (le-ltb k count (omega (arith, l, c)))
]

pub front_exact : (size count : ℕ) (bs : List ℕ) → count ≤ size → bs ≡ map (λ j. front_word count j) (range_with_len 0 (block_count size)) → IsExact size bs
front_exact size count bs c is =
    let n : length bs ≡ block_count size = ap length is ∙ length-map-range_with_len (λ j. front_word count j) 0 (block_count size) in
    record {
      count = n;
      words = λ j. elim (cases_lt j (block_count size)) [
        | inl l ↦
            rw (is, get_or-map-range_with_len (λ j. front_word count j) 0 (block_count size) j j 0 l (zero-add j)) (front_word_fits count j)
        | inr l ↦ rw (get_or_past bs j 0 (omega (arith, n, l))) (lit< tt)
      ];
      clear = λ k l. flag_at-front size count k bs c is ∙ le-ltb k count (omega (arith, l, c));
    }
