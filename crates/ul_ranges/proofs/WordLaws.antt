-- Laws of the loops over blocks of bits.
use Rattle.std.proofs.Common.{◌≡◌, ℕ, List, [], ◌∷◌, Bool, true, false, cond, refl, ap, ◌∙◌, sym, subst, get_or, add-one, append_assoc, drop, drop-cons, ◌++◌, ◌+◌, ◌-◌, ◌*◌, ◌/◌, ◌%◌, ◌^◌, ◌<◌, ◌≤◌, length, arith, eqb, inl, inr, w64, Some, None, set}
use Rattle.std.specs.Prelude.{bit_and, map, zip, ◌&&◌}
use Rattle.std.specs.List.{list_all}
use Rattle.std.specs.Int.{bit_at, bit_not, trailing_zeros}
use Rattle.std.proofs.lemmas.Bool.{cases_lt, cases_eq, true≢false, eq-eqb, ne_eqb}
use Rattle.std.proofs.lemmas.List.{append-nil, drop_all, ext_get_or, get_or_past, get_or-set_same, get_or-set_other, get_or_default, length-set}
use Rattle.std.proofs.lemmas.Nat.{and_le_l}
use Rattle.std.proofs.lemmas.Nat.Bits.{bit_at_above, bit_at-trailing_zeros}
use Rattle.std.specs.Simd.Lanes.{chunk, put_chunk, zip2}
use Rattle.std.proofs.lemmas.Simd.{length-chunk, length-zip2, length-put_chunk, get_or-chunk, get_or-zip2, get_or-put_chunk_below, get_or-put_chunk_at, get_or-put_chunk_above}
use Rattle.ul_ranges.specs.Flags.{IsNext}
use Rattle.ul_ranges.specs.Blocks.{flag, flag_at}
use Rattle.ul_ranges.proofs.BlockLaws.{flag-zero, flag-true, flag-and_not, flag_at-place, ones_below, ones_above, low_mask, word_at, word_count}

-- ---- pairs of two lists, one place after another
pair_first : {X Y : Type 0} (xs : List X) (ys : List Y) (k : ℕ) (d : X) (e : Y) → k < length xs → length xs ≡ length ys
    → zip (drop k xs) (drop k ys) ≡ (get_or xs k d, get_or ys k e) ∷ zip (drop (k + 1) xs) (drop (k + 1) ys)
pair_first xs ys k d e l s = rw (add-one k, drop-cons xs k d l, drop-cons ys k e (omega (arith, s, l))) refl

pub pairs_start : {X Y Z : Type 0} (f : X × Y → Z) (whole made : List Z) (xs : List X) (ys : List Y) (k : ℕ) (d : X) (e : Y)
    → k < length xs → length xs ≡ length ys → made ++ map f (zip (drop k xs) (drop k ys)) ≡ whole
    → (made ++ f (get_or xs k d, get_or ys k e) ∷ []) ++ map f (zip (drop (k + 1) xs) (drop (k + 1) ys)) ≡ whole
pairs_start f whole made xs ys k d e l s h =
    append_assoc made (f (get_or xs k d, get_or ys k e) ∷ []) (map f (zip (drop (k + 1) xs) (drop (k + 1) ys)))
    ∙ ap (λ ps. made ++ map f ps) (sym (pair_first xs ys k d e l s)) ∙ h

pub pairs_end : {X Y Z : Type 0} (f : X × Y → Z) (whole made : List Z) (xs : List X) (ys : List Y) (k : ℕ)
    → length xs ≤ k → made ++ map f (zip (drop k xs) (drop k ys)) ≡ whole → made ≡ whole
pairs_end f whole made xs ys k l h = sym (append-nil made) ∙ ap (λ rest. made ++ map f (zip rest (drop k ys))) (sym (drop_all k xs l)) ∙ h

-- whether an operation makes no bit of the words from a place on
abbrev pub is_clear_from : (ℕ → ℕ → ℕ) → List ℕ → List ℕ → ℕ → Bool
is_clear_from op xs ys k = list_all (λ (p : ℕ × ℕ). eqb (op p.0 p.1) 0) (zip (drop k xs) (drop k ys))

clear_first : (op : ℕ → ℕ → ℕ) (xs ys : List ℕ) (k : ℕ) → k < length xs → length xs ≡ length ys
    → is_clear_from op xs ys k ≡ (eqb (op (get_or xs k 0) (get_or ys k 0)) 0 && is_clear_from op xs ys (k + 1))
clear_first op xs ys k l s = ap (λ (ps : List (ℕ × ℕ)). list_all (λ (p : ℕ × ℕ). eqb (op p.0 p.1) 0) ps) (pair_first xs ys k 0 0 l s)

pub clear_more : (op : ℕ → ℕ → ℕ) (xs ys : List ℕ) (k : ℕ) (whole : Bool) → k < length xs → length xs ≡ length ys
    → op (get_or xs k 0) (get_or ys k 0) ≡ 0 → is_clear_from op xs ys k ≡ whole → is_clear_from op xs ys (k + 1) ≡ whole
clear_more op xs ys k whole l s z h =
    sym (clear_first op xs ys k l s ∙ ap (λ (b : Bool). b && is_clear_from op xs ys (k + 1)) (eq-eqb (op (get_or xs k 0) (get_or ys k 0)) 0 z)) ∙ h

pub clear_ends : (op : ℕ → ℕ → ℕ) (xs ys : List ℕ) (k : ℕ) (whole : Bool) → k < length xs → length xs ≡ length ys
    → (op (get_or xs k 0) (get_or ys k 0) ≡ 0 → ⊥) → is_clear_from op xs ys k ≡ whole → false ≡ whole
clear_ends op xs ys k whole l s z h =
    sym (clear_first op xs ys k l s ∙ ap (λ (b : Bool). b && is_clear_from op xs ys (k + 1)) (ne_eqb (op (get_or xs k 0) (get_or ys k 0)) 0 z)) ∙ h

pub clear_all_along : (op : ℕ → ℕ → ℕ) (xs ys : List ℕ) (k : ℕ) (whole : Bool) → length xs ≤ k → is_clear_from op xs ys k ≡ whole → true ≡ whole
clear_all_along op xs ys k whole l h =
    sym (ap (λ (rest : List ℕ). list_all (λ (p : ℕ × ℕ). eqb (op p.0 p.1) 0) (zip rest (drop k ys))) (drop_all k xs l)) ∙ h

-- ---- words that are written one after another
pub record IsPut (op : ℕ → ℕ → ℕ) (before others now : List ℕ) (j : ℕ) : Type 0 where
  pub count : length now ≡ length before
  pub done : (k : ℕ) → k < j → get_or now k 0 ≡ op (get_or before k 0) (get_or others k 0)
  pub rest : (k : ℕ) → j ≤ k → get_or now k 0 ≡ get_or before k 0

pub put_start : (op : ℕ → ℕ → ℕ) (xs ys : List ℕ) → IsPut op xs ys xs 0
put_start op xs ys = record { count = refl; done = λ k h. absurd (omega (arith, h)); rest = λ k h. refl }

pub put_next : (op : ℕ → ℕ → ℕ) (xs ys now : List ℕ) (j x : ℕ) → IsPut op xs ys now j → j < length xs → x ≡ get_or now j x
    → IsPut op xs ys (set now j (op x (get_or ys j 0))) (j + 1)
put_next op xs ys now j x h inside ex =
    let y : ℕ = get_or ys j 0 in
    let within : j < length now = let c = h.count in omega arith in
    let fx : x ≡ get_or xs j 0 = ex ∙ get_or_default now j x 0 within ∙ h.rest j (omega arith) in
    record {
      count = length-set now j (op x y) ∙ h.count;
      done = λ k l. elim (cases_eq k j) [
        | inl e ↦ rw (e, get_or-set_same now j (op x y) 0 within) (ap (λ (v : ℕ). op v y) fx)
        | inr ne ↦ get_or-set_other now j k (op x y) 0 ne ∙ h.done k (omega arith)
      ];
      rest = λ k l. get_or-set_other now j k (op x y) 0 (λ e. absurd (omega (arith, e, l))) ∙ h.rest k (omega arith);
    }

-- four words at a time
pub put_four : (op : ℕ → ℕ → ℕ) (xs ys now : List ℕ) (j : ℕ) → IsPut op xs ys now j → j + 4 ≤ length ys → length xs ≡ length ys
    → IsPut op xs ys (put_chunk j now (zip2 op (chunk j 4 now) (chunk j 4 ys))) (j + 4)
put_four op xs ys now j h inside e =
    let within : j + 4 ≤ length now = let c = h.count in omega arith in
    let lx : length (chunk j 4 now) ≡ 4 = length-chunk j 4 now within in
    let ly : length (chunk j 4 ys) ≡ 4 = length-chunk j 4 ys inside in
    let zs : List ℕ = zip2 op (chunk j 4 now) (chunk j 4 ys) in
    let lz : length zs ≡ 4 = length-zip2 op (chunk j 4 now) (chunk j 4 ys) (lx ∙ sym ly) ∙ lx in
    let each : (i : ℕ) → i < 4 → get_or (put_chunk j now zs) (j + i) 0 ≡ op (get_or xs (j + i) 0) (get_or ys (j + i) 0) =
    (λ i l. get_or-put_chunk_at j now zs i 0 (omega (arith, l, lz)) (omega (arith, lz, within))
    ∙ get_or-zip2 op (chunk j 4 now) (chunk j 4 ys) i 0 0 0 (omega (arith, l, lx)) (omega (arith, l, ly))
    ∙ ap (λ (v : ℕ). op v (get_or (chunk j 4 ys) i 0)) (get_or-chunk j 4 now i 0 l ∙ h.rest (j + i) (omega arith))
    ∙ ap (λ (v : ℕ). op (get_or xs (j + i) 0) v) (get_or-chunk j 4 ys i 0 l)) in
    record {
      count = length-put_chunk j now zs ∙ h.count;
      done = λ k l. elim (cases_lt k j) [
        | inl b ↦ get_or-put_chunk_below j now zs k 0 b ∙ h.done k b
        | inr a ↦ (let back : j + (k - j) ≡ k = omega (arith, a) in
            subst (λ (m : ℕ). get_or (put_chunk j now zs) m 0 ≡ op (get_or xs m 0) (get_or ys m 0)) back (each (k - j) (omega (arith, a, l))))
      ];
      rest = λ k l. get_or-put_chunk_above j now zs k 0 (omega (arith, l, lz)) ∙ h.rest k (omega (arith, l));
    }

-- clearing bits, lane by lane
pub less_lanes : (xs ys : List ℕ) → zip2 bit_and xs (map (bit_not w64) ys) ≡ zip2 (λ x y. bit_and x (bit_not w64 y)) xs ys
less_lanes [] ys = refl
less_lanes (x ∷ xs) [] = refl
less_lanes (x ∷ xs) (y ∷ ys) = ap (λ (l : List ℕ). bit_and x (bit_not w64 y) ∷ l) (less_lanes xs ys)

pub put_end : (op : ℕ → ℕ → ℕ) (xs ys now : List ℕ) (j : ℕ) → op 0 0 ≡ 0 → IsPut op xs ys now j → length ys ≤ j → length xs ≡ length ys
    → now ≡ map (λ (p : ℕ × ℕ). op p.0 p.1) (zip xs ys)
put_end op xs ys now j z h end e =
    ext_get_or 0 now (map (λ (p : ℕ × ℕ). op p.0 p.1) (zip xs ys)) (h.count ∙ sym (word_count op xs ys e))
    (λ k l. h.done k (let c = h.count in omega arith) ∙ sym (word_at op z xs ys e k))

-- ---- the first bit of a word from a place on
abbrev pub rest_of : ℕ → ℕ → ℕ
rest_of w f = bit_and w (bit_not w64 (1 * 2 ^ f % 2 ^ 64 - 1))

masked : (w f i : ℕ) → f < 64 → i < 64 → flag (rest_of w f) i ≡ cond (flag (2 ^ f - 1) i) false (flag w i)
masked w f i h l = flag-and_not w (1 * 2 ^ f % 2 ^ 64 - 1) i (omega arith) l ∙ ap (λ (m : ℕ). cond (flag m i) false (flag w i)) (low_mask f h)

rest_below : (w f i : ℕ) → f < 64 → i < f → flag (rest_of w f) i ≡ false
rest_below w f i h l = masked w f i h (omega arith) ∙ ap (λ (b : Bool). cond b false (flag w i)) (ones_below f i l)

rest_above : (w f i : ℕ) → f < 64 → f ≤ i → i < 64 → flag (rest_of w f) i ≡ flag w i
rest_above w f i h l k = masked w f i h k ∙ ap (λ (b : Bool). cond b false (flag w i)) (ones_above f i l)

pub flag_none : (w i : ℕ) → bit_at w i ≡ 0 → flag w i ≡ false
unfolding flag
flag_none w i e = ap (λ v. eqb v 1) e

pub flag_high : (w i : ℕ) → w < 2 ^ 64 → 64 ≤ i → flag w i ≡ false
flag_high w i h l = flag_none w i (bit_at_above w 64 i h l)

pub bit_absent : (w f : ℕ) → w < 2 ^ 64 → f < 64 → rest_of w f ≡ 0 → IsNext (flag w) f None
bit_absent w f fits h e = λ k l. elim (cases_lt k 64) [
  | inl s ↦ sym (rest_above w f k h l s) ∙ ap (λ (v : ℕ). flag v k) e ∙ flag-zero k
  | inr s ↦ flag_high w k fits s
]

pub bit_found : (w f t : ℕ) → w < 2 ^ 64 → f < 64 → (rest_of w f ≡ 0 → ⊥) → t ≡ trailing_zeros w64 (rest_of w f) → IsNext (flag w) f (Some t) × (t < 64)
bit_found w f t fits h ne e =
    let small : rest_of w f < 2 ^ 64 = let a = and_le_l w (bit_not w64 (1 * 2 ^ f % 2 ^ 64 - 1)) in omega arith in
    let b = bit_at-trailing_zeros w64 (rest_of w f) (omega (arith, ne)) small in
    let s : t < 64 = subst (λ (i : ℕ). i < 64) (sym e) b.0 in
    let on : flag (rest_of w f) t ≡ true = ap (λ (i : ℕ). flag (rest_of w f) i) e ∙ (flag-true (rest_of w f) (trailing_zeros w64 (rest_of w f))).0 b.1 in
    let from : f ≤ t = elim (cases_lt t f) [ inl l ↦ absurd (true≢false (sym on ∙ rest_below w f t h l)) | inr l ↦ l ] in (
      (
        from,
        sym (rest_above w f t h from s) ∙ on,
        λ k a c. sym (rest_above w f k h a (omega arith)) ∙ flag_none (rest_of w f) k (b.2 k (subst (λ (i : ℕ). k < i) e c)),
      ),
      s,
    )

-- ---- the first bit of blocks from a place on
-- no bit is set from one place on and before another
abbrev pub AreClear : List ℕ → ℕ → ℕ → Type 0
AreClear bs from to = (k : ℕ) → from ≤ k → k < to → flag_at bs k ≡ false

place_of : (bs : List ℕ) (j k : ℕ) → 64 * j ≤ k → k < 64 * j + 64 → flag_at bs k ≡ flag (get_or bs j 0) (k - 64 * j)
place_of bs j k a b =
    let e : 64 * j + (k - 64 * j) ≡ k = omega arith in
    ap (λ (i : ℕ). flag_at bs i) (sym e) ∙ flag_at-place bs j (k - 64 * j) (omega arith)

pub past_end : (bs : List ℕ) (from j : ℕ) → length bs ≤ j → AreClear bs from (64 * j) → IsNext (flag_at bs) from None
unfolding flag_at
past_end bs from j l c = λ k a. elim (cases_lt k (64 * j)) [
  | inl b ↦ c k a b
  | inr b ↦ ap (λ (w : ℕ). flag w (k % 64)) (get_or_past bs (k / 64) 0 (omega arith)) ∙ flag-zero (k % 64)
]

pub block_found : (bs : List ℕ) (from j s b w : ℕ) → w ≡ get_or bs j 0 → b < 64 → from ≤ 64 * j + s → AreClear bs from (64 * j + s) → IsNext (flag w) s (Some b)
    → IsNext (flag_at bs) from (Some (64 * j + b))
block_found bs from j s b w e h l c n = (
  (let a = n.0 in omega arith),
  flag_at-place bs j b h ∙ ap (λ (v : ℕ). flag v b) (sym e) ∙ n.1,
  λ k x y. elim (cases_lt k (64 * j + s)) [
    | inl z ↦ c k x z
    | inr z ↦ place_of bs j k (omega arith) (omega arith) ∙ ap (λ (v : ℕ). flag v (k - 64 * j)) (sym e) ∙ n.2 (k - 64 * j) (omega arith) (omega arith)
  ],
)

pub block_clear : (bs : List ℕ) (from j s w : ℕ) → w ≡ get_or bs j 0 → AreClear bs from (64 * j + s) → IsNext (flag w) s None → AreClear bs from (64 * (j + 1))
block_clear bs from j s w e c n = λ k x y. elim (cases_lt k (64 * j + s)) [
  | inl z ↦ c k x z
  | inr z ↦ place_of bs j k (omega arith) (omega arith) ∙ ap (λ (v : ℕ). flag v (k - 64 * j)) (sym e) ∙ n (k - 64 * j) (omega arith)
]
