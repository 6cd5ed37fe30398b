-- Laws of sets as they are made and written to.
use Rattle.std.proofs.Common.{◌≡◌, ℕ, List, [], ◌∷◌, Bool, false, refl, ap, ◌∙◌, sym, subst, get_or, ◌*◌, ◌/◌, ◌%◌, ◌^◌, ◌<◌, ◌≤◌, length, arith, eqb, inl, inr, Some, None, lit<, replicate, ◌++◌, Result, Ok, Err}
use Rattle.std.specs.Prelude.{bit_or, map, zip, All, IfOk, ◌||◌}
use Rattle.std.specs.List.{range_with_len, list_any}
use Rattle.std.proofs.lemmas.Bool.{cases_lt, cases_eq, ne_eqb, eq-eqb, le-ltb}
use Rattle.std.proofs.lemmas.List.{get_or_past, get_or-replicate, length-replicate}
use Rattle.std.proofs.lemmas.List.Folds.{list_any-append, list_any_none}
use Rattle.std.proofs.lemmas.Nat.{or_lt, pow_below}
use Rattle.std.proofs.lemmas.Nat.Bits.{bit_at-pow_same, bit_at-pow_other}
use Rattle.std.proofs.Math.Nat.{mod-lt}
use Rattle.ul_ranges.specs.Blocks.{flag, flag_at, block_count, IsExact}
use Rattle.ul_ranges.specs.Marks.{HasMarked, IsMarkedWord, front_word}
use Rattle.ul_ranges.specs.Forms.{bit_in, size_in, flag_in, IsWord, IsForm, AreForms, AreLevel, IsSealed, HasBlocks, IsMade, IsZipped, IsOpen, IsResealed, HasMembers, HasFront}
use Rattle.ul_ranges.specs.Operations.{word_by, flag_by}
use Rattle.ul_ranges.specs.declared.words.Operation.{Operation}
use Rattle.ul_ranges.specs.declared.forms.Form.{Form}
use Rattle.ul_ranges.specs.declared.forms.Form.TheVariants.{Word, Few, Many}
use Rattle.ul_ranges.proofs.BlockLaws.{flag-zero, flag-true, IsFlagwise, by_flagwise, zip_exact, zip_flag, word_marked, or_false, flag-first_word, front_word_fits, flag_at-front}
use Rattle.ul_ranges.proofs.WordLaws.{flag_high, flag_none}
use Rattle.ul_ranges.proofs.FormLaws.{bit_within, bit_past, beyond, few_past, many_blocks, zipped_made}

pub ok_then : {A E : Type 0} (r : Result A E) (P Q : A → Type 0) → IfOk r P → ((x : A) → P x → Q x) → IfOk r Q
ok_then (Ok x) P Q h k = k x h
ok_then (Err e) P Q h k = tt

-- ---- blocks of two sets, zipped
pub many_large : (size : ℕ) (f : Form) (bs : List ℕ) → f ≡ Many size bs → IsForm f → 64 < size_in f
many_large size f bs e h = subst (λ (g : Form). 64 < size_in g) (sym e) (subst (λ (g : Form). IsForm g) e h).large

-- the blocks by which a set is kept, as they are lent
pub has_blocks : (size : ℕ) (f : Form) (bs xs : List ℕ) → f ≡ Many size bs → IsForm f → xs ≡ bs → HasBlocks (size_in f) f xs
has_blocks size f bs xs e h q =
    let whole = many_blocks size bs (subst (λ (g : Form). IsForm g) e h) in
    subst (λ (l : List ℕ). HasBlocks (size_in f) f l) (sym q) (subst (λ (g : Form). HasBlocks (size_in g) g bs) (sym e) whole)

-- the blocks of a set, by a number that is its size
pub sized_blocks : (size : ℕ) (f : Form) (bs : List ℕ) → size ≡ size_in f → HasBlocks (size_in f) f bs → HasBlocks size f bs
sized_blocks size f bs e h = subst (λ (k : ℕ). HasBlocks k f bs) (sym e) h

-- a set's blocks in a list of their own, as they are lent
pub lent_blocks : (size : ℕ) (f : Form) (bs xs : List ℕ) → size ≡ size_in f → HasBlocks (size_in f) f bs → xs ≡ bs → HasBlocks size f xs
lent_blocks size f bs xs e h q = sized_blocks size f xs e (subst (λ (l : List ℕ). HasBlocks (size_in f) f l) (sym q) h)

-- two sets of one size that are kept by blocks have as many
pub are_level : (f g : Form) → AreForms f g → AreLevel f g
are_level (Word m x) g h = tt
are_level (Few m o) g h = tt
are_level (Many m xs) (Word n y) h = tt
are_level (Many m xs) (Few n o) h = tt
are_level (Many m xs) (Many n ys) h = h.left.exact.count ∙ ap block_count h.same_size ∙ sym h.right.exact.count

-- words of two sets' blocks are as many, what an operation makes of them is blocks of that size, and they keep what it makes of the sets
pub same_count : (size : ℕ) (f g : Form) (xs ys : List ℕ) → HasBlocks size f xs → HasBlocks size g ys → length xs ≡ length ys
same_count size f g xs ys a b = a.exact.count ∙ sym b.exact.count

pub zipped_whole : (o : Operation) (size : ℕ) (f g : Form) (xs ys r : List ℕ) → HasBlocks size f xs → HasBlocks size g ys
    → r ≡ map (λ (p : ℕ × ℕ). word_by o p.0 p.1) (zip xs ys) → IsExact size r
zipped_whole o size f g xs ys r a b e = subst (λ (l : List ℕ). IsExact size l) (sym e) (zip_exact size xs ys (word_by o) (flag_by o) (by_flagwise o) a.exact b.exact)

pub zipped_sealed : (o : Operation) (size : ℕ) (f g made : Form) (xs ys r : List ℕ) → HasBlocks size f xs → HasBlocks size g ys
    → r ≡ map (λ (p : ℕ × ℕ). word_by o p.0 p.1) (zip xs ys) → IsSealed size r made → IsMade (flag_by o) f g made
zipped_sealed o size f g made xs ys r a b e s = zipped_made size (word_by o) (flag_by o) (by_flagwise o) f g made xs ys r a b e s

pub word_made : (m n : ℕ) (fb : Bool → Bool → Bool) (f g : Form) (x y v : ℕ) → f ≡ Word m x → g ≡ Word n y → AreForms f g
    → (IsWord m x → IsWord m y → IsMade fb (Word m x) (Word n y) (Word m v)) → IsMade fb f g (Word m v)
word_made m n fb f g x y v e q h make =
    let level : n ≡ m = ap size_in (sym q) ∙ sym h.same_size ∙ ap size_in e in
    let left : IsWord m x = subst (λ (k : Form). IsForm k) e h.left in
    let right : IsWord n y = subst (λ (k : Form). IsForm k) q h.right in
    let made = make left (subst (λ (k : ℕ). IsWord k y) level right) in
    subst (λ (k : Form). IsMade fb k g (Word m v)) (sym e) (subst (λ (k : Form). IsMade fb (Word m x) k (Word m v)) (sym q) made)

-- ---- written in place
pub zipped_open : (op : ℕ → ℕ → ℕ) (fb : Bool → Bool → Bool) (w : IsFlagwise op fb) (f g h : Form) → AreForms f g → IsZipped op f g h → IsOpen h
zipped_open op fb w (Many m xs) (Many n ys) h a z =
    let ys_exact = subst (λ (k : ℕ). IsExact k ys) (sym a.same_size) a.right.exact in
    subst (λ (k : Form). IsOpen k) (sym z) (a.left.large, zip_exact m xs ys op fb w a.left.exact ys_exact)
zipped_open op fb w (Many m xs) (Word n y) h a z = absurd z
zipped_open op fb w (Many m xs) (Few n o) h a z = absurd z
zipped_open op fb w (Word m x) g h a z = absurd z
zipped_open op fb w (Few m o) g h a z = absurd z

pub zipped_resealed : (op : ℕ → ℕ → ℕ) (fb : Bool → Bool → Bool) (w : IsFlagwise op fb) (f g h made : Form) → AreForms f g → IsZipped op f g h → IsResealed h made
    → IsMade fb f g made
zipped_resealed op fb w (Many m xs) (Many n ys) h made a z r =
    let ys_exact = subst (λ (k : ℕ). IsExact k ys) (sym a.same_size) a.right.exact in
    record {
      is_form = r.is_form;
      same_size = r.same_size ∙ ap size_in z;
      each = λ k. r.each k ∙ ap (λ (v : Form). flag_in v k) z ∙ zip_flag m xs ys op fb w a.left.exact ys_exact k;
    }
zipped_resealed op fb w (Many m xs) (Word n y) h made a z r = absurd z
zipped_resealed op fb w (Many m xs) (Few n o) h made a z r = absurd z
zipped_resealed op fb w (Word m x) g h made a z r = absurd z
zipped_resealed op fb w (Few m o) g h made a z r = absurd z

-- ---- the blocks of a set
pub some_blocks : (size m : ℕ) (bs : List ℕ) → m < size → HasMarked size bs (m ∷ []) → HasBlocks size (Few size (Some m)) bs
some_blocks size m bs l h = record {
  same_size = refl;
  exact = record { count = h.count; words = h.words; clear = λ k p. h.flags k ∙ or_false (eqb m k) ∙ few_past size (Some m) k l p };
  each = λ k. h.flags k ∙ or_false (eqb m k);
}

pub no_blocks : (size : ℕ) (bs : List ℕ) → HasMarked size bs [] → HasBlocks size (Few size None) bs
no_blocks size bs h = record {
  same_size = refl;
  exact = record { count = h.count; words = h.words; clear = λ k p. h.flags k };
  each = λ k. h.flags k;
}

word_past : (size w n : ℕ) (bs : List ℕ) (k : ℕ) → IsWord size w → n ≡ block_count size → ((j : ℕ) → j < n → get_or bs j 0 ≡ w) → ((j : ℕ) → n ≤ j → get_or bs j 0 ≡ 0)
    → size ≤ k → flag_at bs k ≡ false
unfolding flag_at
word_past size w n bs k h count here past l = elim (cases_lt (k / 64) n) [
  | inl a ↦
      let s = h.small in
      let r : k % 64 ≡ k = omega arith in
      ap (λ (v : ℕ). flag v (k % 64)) (here (k / 64) a) ∙ ap (λ (i : ℕ). flag w i) r ∙ h.clear k l
  | inr a ↦ ap (λ (v : ℕ). flag v (k % 64)) (past (k / 64) a) ∙ flag-zero (k % 64)
]

pub word_blocks : (size w n : ℕ) (bs : List ℕ) → IsWord size w → n ≡ block_count size → bs ≡ replicate n w → HasBlocks size (Word size w) bs
unfolding flag_at
word_blocks size w n bs h count is =
    let long : length bs ≡ n = ap length is ∙ length-replicate n w in
    let here : (j : ℕ) → j < n → get_or bs j 0 ≡ w = λ j l. ap (λ (l : List ℕ). get_or l j 0) is ∙ get_or-replicate n j w 0 l in
    let past : (j : ℕ) → n ≤ j → get_or bs j 0 ≡ 0 = λ j l. get_or_past bs j 0 (omega arith) in
    let each : (k : ℕ) → flag_at bs k ≡ bit_in w k = λ k. elim (cases_lt k size) [
      | inl l ↦
          let s = h.small in
          let z : k / 64 ≡ 0 = omega arith in
          let r : k % 64 ≡ k = omega arith in
          ap (λ (i : ℕ). flag (get_or bs i 0) (k % 64)) z ∙ ap (λ (v : ℕ). flag v (k % 64)) (here 0 (omega arith)) ∙ ap (λ (i : ℕ). flag w i) r ∙ sym (bit_within w k (omega arith))
      | inr l ↦ word_past size w n bs k h count here past l ∙ sym (bit_past size w k h l)
    ] in
    record {
      same_size = refl;
      exact = record {
        count = long ∙ count;
        words = λ j. elim (cases_lt j n) [
          | inl l ↦ subst (λ (v : ℕ). v < 2 ^ 64) (sym (here j l)) h.fits
          | inr l ↦ subst (λ (v : ℕ). v < 2 ^ 64) (sym (past j l)) (lit< tt)
        ];
        clear = λ k l. each k ∙ bit_past size w k h l;
      };
      each = each;
    }

-- ---- sets that are made of lists
pub unmarked_word : IsMarkedWord 0 []
unmarked_word = record { fits = lit< tt; flags = λ k l. flag-zero k }

pub marked_word : (w m : ℕ) (ms : List ℕ) → m < 64 → IsMarkedWord w ms → IsMarkedWord (bit_or w (1 * 2 ^ m % 2 ^ 64)) (ms ++ m ∷ [])
marked_word w m ms l h = record {
  fits = or_lt 64 w (1 * 2 ^ m % 2 ^ 64) h.fits (mod-lt (1 * 2 ^ m) (lit< tt));
  flags = λ k s. word_marked w m k l s ∙ ap (λ (b : Bool). b || eqb m k) (h.flags k s)
      ∙ ap (λ (b : Bool). list_any (λ m. eqb m k) ms || b) (sym (or_false (eqb m k))) ∙ sym (list_any-append (λ m. eqb m k) ms (m ∷ []));
}

none_listed : (size k : ℕ) (ms : List ℕ) → All (λ m. m < size) ms → size ≤ k → list_any (λ m. eqb m k) ms ≡ false
none_listed size k ms all past = list_any_none (λ m. eqb m k) ms (λ j d l. ne_eqb (get_or ms j d) k (let e = all j d l in λ q. absurd (omega arith)))

pub word_members : (size w : ℕ) (ms : List ℕ) → size ≤ 64 → All (λ m. m < size) ms → IsMarkedWord w ms → HasMembers size ms (Word size w)
word_members size w ms s all h = record {
  is_form = record {
    small = s;
    fits = h.fits;
    clear = λ k p. elim (cases_lt k 64) [
      | inl l ↦ h.flags k l ∙ none_listed size k ms all p
      | inr l ↦ flag_high w k h.fits l
    ];
  };
  same_size = refl;
  each = λ k. elim (cases_lt k 64) [
    | inl l ↦ bit_within w k l ∙ h.flags k l
    | inr l ↦ beyond w k l ∙ sym (none_listed size k ms all (omega arith))
  ];
}

pub pow_word : (m : ℕ) → m < 64 → IsMarkedWord (1 * 2 ^ m % 2 ^ 64) (m ∷ [])
pow_word m l =
    let p = pow_below m 64 l in
    let e : 1 * 2 ^ m % 2 ^ 64 ≡ 2 ^ m = omega arith in
    record {
      fits = mod-lt (1 * 2 ^ m) (lit< tt);
      flags = λ k s. ap (λ (v : ℕ). flag v k) e ∙ pow_flag m k ∙ sym (or_false (eqb m k));
    }
  where
    pow_flag : (m k : ℕ) → flag (2 ^ m) k ≡ eqb m k
    pow_flag m k = elim (cases_eq k m) [
      | inl e ↦ ap (λ (i : ℕ). flag (2 ^ m) i) e ∙ (flag-true (2 ^ m) m).0 (bit_at-pow_same m) ∙ sym (eq-eqb m k (sym e))
      | inr ne ↦ flag_none (2 ^ m) k (bit_at-pow_other m k ne) ∙ sym (ne_eqb m k (λ e. ne (sym e)))
    ]

pub marked_exact : (size : ℕ) (bs ms : List ℕ) → All (λ m. m < size) ms → HasMarked size bs ms → IsExact size bs
marked_exact size bs ms all h = record { count = h.count; words = h.words; clear = λ k past. h.flags k ∙ none_listed size k ms all past }

-- ---- the set of the numbers below a count
pub front_sealed : (size count : ℕ) (bs : List ℕ) (f : Form) → count ≤ size → bs ≡ map (λ j. front_word count j) (range_with_len 0 (block_count size))
    → IsSealed size bs f → HasFront size count f
front_sealed size count bs f c is s = record { is_form = s.is_form; same_size = s.same_size; each = λ k. s.each k ∙ flag_at-front size count k bs c is }

pub front_small : (size count : ℕ) → size ≤ 64 → count ≤ size → HasFront size count (Word size (front_word count 0))
front_small size count s c = record {
  is_form = record {
    small = s;
    fits = front_word_fits count 0;
    clear = λ k l. elim (cases_lt k 64) [
      | inl a ↦ flag-first_word count k a ∙ le-ltb k count (omega (arith, c, l))
      | inr a ↦ flag_high (front_word count 0) k (front_word_fits count 0) a
    ];
  };
  same_size = refl;
  each = λ k. elim (cases_lt k 64) [
    | inl a ↦ bit_within (front_word count 0) k a ∙ flag-first_word count k a
    | inr a ↦ beyond (front_word count 0) k a ∙ sym (le-ltb k count (omega (arith, a, s, c)))
  ];
}
