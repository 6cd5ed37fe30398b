-- Laws of sets as they are kept.
use Rattle.std.proofs.Common.{◌≡◌, ℕ, List, [], Bool, true, false, cond, refl, ap, ◌∙◌, sym, subst, get_or, ◌+◌, ◌*◌, ◌<◌, ◌≤◌, length, arith, inl, inr, w64, replicate, zero-add, Option, Some, None, nat_eq, nat_lt}
use Rattle.std.specs.Prelude.{bit_and, bit_or, map, zip, ◌↔◌, IsTrue, All}
use Rattle.std.specs.Int.{bit_not}
use Rattle.std.proofs.lemmas.Bool.{cases_lt, eqb-true, ne_eqb, cond-true, cond-false, lt-ltb, le-ltb, true≢false, false≢true}
use Rattle.std.proofs.lemmas.List.{get_or_past, get_or-replicate, length-replicate}
use Rattle.std.proofs.lemmas.List.FromFn.{length-map-range_with_len, get_or-map-range_with_len}
use Rattle.std.proofs.lemmas.Nat.{and_le_l, or_lt}
use Rattle.ul_ranges.specs.Flags.{has, both, either, less, is_apart, is_blank, is_within, set_of, front, IsNext}
use Rattle.ul_ranges.specs.Blocks.{flag, flag_at, block_count, AreBlocksOf}
use Rattle.ul_ranges.specs.Operations.{in_both, in_either, in_first}
use Rattle.ul_ranges.specs.Forms.{bit_in, is_one, size_in, flag_in, flags_in, IsWord, IsBelow, IsMany, IsForm, IsSealed, HasBlocks, IsMade, AreForms, AreSame, AreWithin, AreApart, HasMembers, HasFront}
use Rattle.ul_ranges.specs.declared.forms.Form.{Form}
use Rattle.ul_ranges.specs.declared.forms.Form.TheVariants.{Word, Few, Many}
use Rattle.ul_ranges.proofs.FlagLaws.{has-both, has-either, has-less, length-both, length-either, length-less, blank_none, none_blank, same_sets, cond_same, length-set_of, has-set_of, length-front, has-front}
use Rattle.ul_ranges.proofs.BlockLaws.{flag-and, flag-or, flag-and_not, flag-true, flag_at-place, IsFlagwise, zip_flag}

-- ---- the flags of a form
pub length-flags_in : (f : Form) → length (flags_in f) ≡ size_in f
unfolding flags_in
length-flags_in f = length-map-range_with_len (λ k. flag_in f k) 0 (size_in f)

pub bit_past : (size w k : ℕ) → IsWord size w → size ≤ k → bit_in w k ≡ false
bit_past size w k h l = which (nat_lt k 64)
  where
    which : (b : Bool) → cond b (flag w k) false ≡ false
    which true = h.clear k l
    which false = refl

pub few_past : (size : ℕ) (o : Option ℕ) (k : ℕ) → IsBelow size o → size ≤ k → is_one o k ≡ false
few_past size None k h l = refl
few_past size (Some m) k h l = ne_eqb m k (λ e. absurd (omega (arith, e, h, l)))

pub flag_past : (f : Form) (k : ℕ) → IsForm f → size_in f ≤ k → flag_in f k ≡ false
flag_past (Word size w) k h l = bit_past size w k h l
flag_past (Few size o) k h l = few_past size o k h.below l
flag_past (Many size bs) k h l = h.exact.clear k l

pub has-flags_in : (f : Form) → IsForm f → (k : ℕ) → has k (flags_in f) ≡ flag_in f k
unfolding flags_in
has-flags_in f h k = elim (cases_lt k (size_in f)) [
  | inl l ↦ get_or-map-range_with_len (λ k. flag_in f k) 0 (size_in f) k k false l (zero-add k)
  | inr l ↦ get_or_past (flags_in f) k false (let e = length-flags_in f in omega arith) ∙ sym (flag_past f k h l)
]

-- a set is kept so
pub record IsKept (f : Form) (s : List Bool) : Type 0 where
  pub is_form : IsForm f
  pub view : flags_in f ≡ s

pub kept_flag : (f : Form) (s : List Bool) → IsKept f s → (k : ℕ) → flag_in f k ≡ has k s
kept_flag f s h k = sym (has-flags_in f h.is_form k) ∙ ap (has k) h.view

pub kept_size : (f : Form) (s : List Bool) → IsKept f s → length s ≡ size_in f
kept_size f s h = ap length (sym h.view) ∙ length-flags_in f

pub keeps : (f : Form) (s : List Bool) → IsForm f → length s ≡ size_in f → ((k : ℕ) → flag_in f k ≡ has k s) → flags_in f ≡ s
keeps f s h long each = same_sets (flags_in f) s (length-flags_in f ∙ sym long) (λ k. has-flags_in f h k ∙ each k)

same_bool : (a b : Bool) → (a ≡ true → b ≡ true) → (b ≡ true → a ≡ true) → a ≡ b
same_bool true b h k = sym (h refl)
same_bool false true h k = k refl
same_bool false false h k = refl

-- ---- two sets of one size
pub record AreKept (f g : Form) (s t : List Bool) : Type 0 where
  pub left : IsKept f s
  pub right : IsKept g t
  pub sizes : length s ≡ length t

module _ (f g : Form) (s t : List Bool) (p : AreKept f g s t) where
  pub are_forms : AreForms f g
  are_forms = record {
    left = p.left.is_form;
    right = p.right.is_form;
    same_size = sym (kept_size f s p.left) ∙ p.sizes ∙ kept_size g t p.right;
  }

  flags_two : (op : Bool → Bool → Bool) (k : ℕ) → op (flag_in f k) (flag_in g k) ≡ op (has k s) (has k t)
  flags_two op k = ap (λ (b : Bool). op b (flag_in g k)) (kept_flag f s p.left k) ∙ ap (λ (b : Bool). op (has k s) b) (kept_flag g t p.right k)

  made_size : (op : Bool → Bool → Bool) (h : Form) → IsMade op f g h → length s ≡ size_in h
  made_size op h w = kept_size f s p.left ∙ sym w.same_size

  pub made_both : (h : Form) → IsMade in_both f g h → flags_in h ≡ both s t
  made_both h w = keeps h (both s t) w.is_form (length-both s t p.sizes ∙ made_size in_both h w) (λ k. w.each k ∙ flags_two in_both k ∙ sym (has-both k s t))

  pub made_either : (h : Form) → IsMade in_either f g h → flags_in h ≡ either s t
  made_either h w = keeps h (either s t) w.is_form (length-either s t p.sizes ∙ made_size in_either h w) (λ k. w.each k ∙ flags_two in_either k ∙ sym (has-either k s t))

  pub made_less : (h : Form) → IsMade in_first f g h → flags_in h ≡ less s t
  made_less h w = keeps h (less s t) w.is_form (length-less s t ∙ made_size in_first h w) (λ k. w.each k ∙ flags_two in_first k ∙ sym (has-less k s t))

  -- the tests
  pub same_tested : (r : Bool) → IsTrue r ↔ AreSame f g → IsTrue r ↔ (s ≡ t)
  same_tested r i = (
    λ h. same_sets s t p.sizes (λ k. sym (kept_flag f s p.left k) ∙ i.0 h k ∙ kept_flag g t p.right k),
    λ h. i.1 (λ k. kept_flag f s p.left k ∙ ap (has k) h ∙ sym (kept_flag g t p.right k)),
  )

  pub within_tested : (r : Bool) → IsTrue r ↔ AreWithin f g → r ≡ is_within s t
  within_tested r i = same_bool r (is_within s t)
      (λ h. none_blank (less s t) (λ k. has-less k s t ∙ left_out (has k s) (has k t) (λ x. sym (kept_flag g t p.right k) ∙ i.0 h k (kept_flag f s p.left k ∙ x))))
      (λ h. i.1 (λ k x. kept_flag g t p.right k ∙ left_in (has k s) (has k t) (sym (has-less k s t) ∙ blank_none (less s t) h k) (sym (kept_flag f s p.left k) ∙ x)))
    where
      left_out : (x y : Bool) → (x ≡ true → y ≡ true) → cond y false x ≡ false
      left_out true y h = ap (λ (b : Bool). cond b false true) (h refl)
      left_out false y h = cond_same y

      left_in : (x y : Bool) → cond y false x ≡ false → x ≡ true → y ≡ true
      left_in x true e h = refl
      left_in x false e h = absurd (true≢false (sym h ∙ e))

  pub apart_tested : (r : Bool) → IsTrue r ↔ AreApart f g → r ≡ is_apart s t
  apart_tested r i = same_bool r (is_apart s t)
      (λ h. none_blank (both s t) (λ k. has-both k s t ∙ left_out (has k s) (has k t) (λ x. sym (kept_flag g t p.right k) ∙ i.0 h k (kept_flag f s p.left k ∙ x))))
      (λ h. i.1 (λ k x. kept_flag g t p.right k ∙ left_in (has k s) (has k t) (sym (has-both k s t) ∙ blank_none (both s t) h k) (sym (kept_flag f s p.left k) ∙ x)))
    where
      left_out : (x y : Bool) → (x ≡ true → y ≡ false) → cond x y false ≡ false
      left_out true y h = h refl
      left_out false y h = refl

      left_in : (x y : Bool) → cond x y false ≡ false → x ≡ true → y ≡ false
      left_in true y e h = e
      left_in false y e h = absurd (false≢true h)

pub blank_tested : (f : Form) (s : List Bool) → IsKept f s → (r : Bool) → IsTrue r ↔ ((k : ℕ) → flag_in f k ≡ false) → r ≡ is_blank s
blank_tested f s h r i = same_bool r (is_blank s)
    (λ e. none_blank s (λ k. sym (kept_flag f s h k) ∙ i.0 e k))
    (λ e. i.1 (λ k. kept_flag f s h k ∙ blank_none s e k))

pub next_kept : (f : Form) (s : List Bool) → IsKept f s → (from : ℕ) (o : Option ℕ) → IsNext (λ k. flag_in f k) from o → IsNext (λ k. has k s) from o
next_kept f s h from None n = λ k l. sym (kept_flag f s h k) ∙ n k l
next_kept f s h from (Some m) n = (n.0, sym (kept_flag f s h m) ∙ n.1, λ k a b. sym (kept_flag f s h k) ∙ n.2 k a b)

-- ---- one member against any set

kept_in : (b c x : Bool) → (c ≡ true → x ≡ b) → cond b c false ≡ cond c x false
kept_in true true x h = sym (h refl)
kept_in true false x h = refl
kept_in false true x h = sym (h refl)
kept_in false false x h = refl

swapped : (x y : Bool) → cond x y false ≡ cond y x false
swapped true true = refl
swapped true false = refl
swapped false true = refl
swapped false false = refl

same_place : (g : Form) (m k : ℕ) → nat_eq m k ≡ true → flag_in g k ≡ flag_in g m
same_place g m k e = ap (λ (i : ℕ). flag_in g i) (sym (eqb-true m k e))

-- ---- words
pub bit_within : (w k : ℕ) → k < 64 → bit_in w k ≡ flag w k
bit_within w k h = cond-true (nat_lt k 64) (flag w k) false (lt-ltb k 64 h)

pub beyond : (w k : ℕ) → 64 ≤ k → bit_in w k ≡ false
beyond w k l = cond-false (nat_lt k 64) (flag w k) false (le-ltb k 64 l)

pub word_meets : (size other x y : ℕ) → IsWord size x → IsWord size y → IsMade in_both (Word size x) (Word other y) (Word size (bit_and x y))
word_meets size other x y a b = record {
  is_form = record {
    small = a.small;
    fits = (let e = and_le_l x y in let f = a.fits in omega arith);
    clear = λ k l. flag-and x y k ∙ ap (λ (v : Bool). cond v (flag y k) false) (a.clear k l);
  };
  same_size = refl;
  each = λ k. which k (nat_lt k 64);
}
  where
    which : (k : ℕ) (v : Bool) → cond v (flag (bit_and x y) k) false ≡ cond (cond v (flag x k) false) (cond v (flag y k) false) false
    which k true = flag-and x y k
    which k false = refl

pub word_joins : (size other x y : ℕ) → IsWord size x → IsWord size y → IsMade in_either (Word size x) (Word other y) (Word size (bit_or x y))
word_joins size other x y a b = record {
  is_form = record {
    small = a.small;
    fits = or_lt 64 x y a.fits b.fits;
    clear = λ k l. flag-or x y k ∙ ap (λ (v : Bool). cond v true (flag y k)) (a.clear k l) ∙ b.clear k l;
  };
  same_size = refl;
  each = λ k. which k (nat_lt k 64);
}
  where
    which : (k : ℕ) (v : Bool) → cond v (flag (bit_or x y) k) false ≡ cond (cond v (flag x k) false) true (cond v (flag y k) false)
    which k true = flag-or x y k
    which k false = refl

pub word_lessens : (size other x y : ℕ) → IsWord size x → IsWord size y → IsMade in_first (Word size x) (Word other y) (Word size (bit_and x (bit_not w64 y)))
word_lessens size other x y a b = record {
  is_form = record {
    small = a.small;
    fits = (let e = and_le_l x (bit_not w64 y) in let f = a.fits in omega arith);
    clear = λ k l. flag-and x (bit_not w64 y) k ∙ ap (λ (v : Bool). cond v (flag (bit_not w64 y) k) false) (a.clear k l);
  };
  same_size = refl;
  each = λ k. elim (cases_lt k 64) [
    | inl l ↦ bit_within (bit_and x (bit_not w64 y)) k l ∙ flag-and_not x y k b.fits l ∙ ap (λ (v : Bool). cond v false (flag x k)) (sym (bit_within y k l)) ∙ ap (λ (v : Bool). cond (bit_in y k) false v) (sym (bit_within x k l))
    | inr l ↦ beyond (bit_and x (bit_not w64 y)) k l ∙ sym (ap (λ (v : Bool). cond v false (bit_in x k)) (beyond y k l) ∙ beyond x k l)
  ];
}

-- ---- blocks
pub many_blocks : (size : ℕ) (bs : List ℕ) → IsMany size bs → HasBlocks size (Many size bs) bs
many_blocks size bs h = record { same_size = refl; exact = h.exact; each = λ k. refl }

pub zipped_made : (size : ℕ) (op : ℕ → ℕ → ℕ) (fb : Bool → Bool → Bool) (w : IsFlagwise op fb) (mine theirs made : Form) (xs ys r : List ℕ)
    → HasBlocks size mine xs → HasBlocks size theirs ys → r ≡ map (λ (p : ℕ × ℕ). op p.0 p.1) (zip xs ys) → IsSealed size r made → IsMade fb mine theirs made
zipped_made size op fb w mine theirs made xs ys r a b e s = record {
  is_form = s.is_form;
  same_size = s.same_size ∙ sym a.same_size;
  each = λ k. s.each k ∙ ap (λ (bs : List ℕ). flag_at bs k) e ∙ zip_flag size xs ys op fb w a.exact b.exact k
      ∙ ap (λ (v : Bool). fb v (flag_at ys k)) (a.each k) ∙ ap (λ (v : Bool). fb (flag_in mine k) v) (b.each k);
}

-- the blocks of a set that is kept so
pub blocks_kept : (f : Form) (s : List Bool) (bs : List ℕ) → IsKept f s → HasBlocks (size_in f) f bs → AreBlocksOf s bs
blocks_kept f s bs h b =
    let each : (k i : ℕ) → i < 64 → has (64 * k + i) s ≡ flag (get_or bs k 0) i =
    λ k i l. sym (kept_flag f s h (64 * k + i)) ∙ sym (b.each (64 * k + i)) ∙ flag_at-place bs k i l in
    record {
      count = b.exact.count ∙ ap block_count (sym (kept_size f s h));
      bits = λ k i l. let t = flag-true (get_or bs k 0) i in (λ e. each k i l ∙ t.0 e, λ e. t.1 (sym (each k i l) ∙ e));
    }

-- past its size a set has no flag
past_size : (size : ℕ) (f : Form) (k : ℕ) → IsForm f → size_in f ≡ size → size ≤ k → flag_in f k ≡ false
past_size size f k h e l = flag_past f k h (subst (λ (n : ℕ). n ≤ k) (sym e) l)

-- sets that are made of lists
pub members_kept : (size : ℕ) (ms : List ℕ) (f : Form) → All (λ m. m < size) ms → HasMembers size ms f → flags_in f ≡ set_of size ms
members_kept size ms f all h = keeps f (set_of size ms) h.is_form (length-set_of size ms ∙ sym h.same_size) (λ k. elim (cases_lt k size) [
  | inl l ↦ h.each k ∙ sym (has-set_of k size ms l)
  | inr l ↦ past_size size f k h.is_form h.same_size l ∙ sym (get_or_past (set_of size ms) k false (let e = length-set_of size ms in omega arith))
])

pub none_kept : (size : ℕ) (f : Form) → HasMembers size [] f → flags_in f ≡ replicate size false
none_kept size f h = keeps f (replicate size false) h.is_form (length-replicate size false ∙ sym h.same_size) (λ k. h.each k ∙ elim (cases_lt k size) [
  | inl l ↦ sym (get_or-replicate size k false false l)
  | inr l ↦ sym (get_or_past (replicate size false) k false (let e = length-replicate size false in omega arith))
])

pub front_kept : (size count : ℕ) (f : Form) → count ≤ size → HasFront size count f → flags_in f ≡ front size count
front_kept size count f c h = keeps f (front size count) h.is_form (length-front size count ∙ sym h.same_size) (λ k. h.each k ∙ elim (cases_lt k size) [
  | inl l ↦ sym (has-front k size count l)
  | inr l ↦ le-ltb k count (omega (arith, l, c)) ∙ sym (get_or_past (front size count) k false (let e = length-front size count in omega arith))
])

-- the numbers below the size are all numbers of a set
pub front_whole : (size : ℕ) → front size size ≡ replicate size true
front_whole size = same_sets (front size size) (replicate size true) (length-front size size ∙ sym (length-replicate size true)) (λ k. elim (cases_lt k size) [
  | inl l ↦ has-front k size size l ∙ lt-ltb k size l ∙ sym (get_or-replicate size k true false l)
  | inr l ↦ get_or_past (front size size) k false (let e = length-front size size in omega arith)
      ∙ sym (get_or_past (replicate size true) k false (let e = length-replicate size true in omega arith))
])
