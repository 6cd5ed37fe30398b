-- Laws of the tests on sets as they are kept, and of how they are kept.
use Rattle.std.proofs.Common.{◌≡◌, ℕ, List, Bool, true, false, cond, refl, ap, ◌∙◌, sym, subst, get_or, ◌+◌, ◌*◌, ◌<◌, ◌≤◌, arith, eqb, inl, inr, w64, Option, Some, None, lit<, ◌⊎◌}
use Rattle.std.specs.Prelude.{bit_and, map, zip, ◌↔◌, IsTrue, not}
use Rattle.std.specs.Option.{is_some, option_eq}
use Rattle.std.specs.Int.{bit_not}
use Rattle.std.specs.List.{list_all}
use Rattle.std.specs.Cmp.Lexicographic.{pointwise}
use Rattle.std.proofs.lemmas.Slice.Eq.{slice_eq-Decides}
use Rattle.std.proofs.lemmas.Bool.Decides.{Decides-eqb}
use Rattle.std.proofs.lemmas.Bool.{cases_lt, eqb-true, eq-eqb, true≢false, false≢true}
use Rattle.std.proofs.lemmas.List.{ext_get_or}
use Rattle.ul_ranges.specs.Blocks.{flag, flag_at, IsExact}
use Rattle.ul_ranges.specs.Operations.{in_both, in_first}
use Rattle.ul_ranges.specs.Forms.{bit_in, is_one, HasTwo, IsWord, AreForms, AreSame, AreWithin, AreApart}
use Rattle.ul_ranges.specs.declared.forms.Form.{Form}
use Rattle.ul_ranges.specs.declared.forms.Form.TheVariants.{Word, Few, Many}
use Rattle.ul_ranges.proofs.BlockLaws.{flag-zero, same_word, flag_at-place, flag-and, flag-and_not, all_of_map, all_clear, clear_all, and_flagwise, less_flagwise, zip_exact, zip_flag}
use Rattle.ul_ranges.proofs.FormLaws.{bit_within, beyond}

-- two flags of one member are of one number
pub one_only : (o : Option ℕ) (i j : ℕ) → is_one o i ≡ true → is_one o j ≡ true → i ≡ j
one_only None i j a b = absurd (false≢true a)
one_only (Some m) i j a b = sym (eqb-true m i a) ∙ eqb-true m j b

not_two : (o : Option ℕ) (bs : List ℕ) → HasTwo bs → ((k : ℕ) → flag_at bs k ≡ true → is_one o k ≡ true) → ⊥
not_two o bs t h = let e : t.first ≡ t.second = one_only o t.first t.second (h t.first t.first_set) (h t.second t.second_set) in omega (arith, e, t.rising)

-- ---- no member
pub word_empty : (size w : ℕ) → IsWord size w → IsTrue (eqb w 0) ↔ ((k : ℕ) → bit_in w k ≡ false)
word_empty size w h = (
  λ e k. elim (cases_lt k 64) [
    | inl l ↦ bit_within w k l ∙ ap (λ (x : ℕ). flag x k) (eqb-true w 0 e) ∙ flag-zero k
    | inr l ↦ beyond w k l
  ],
  λ c. eq-eqb w 0 (same_word w 0 h.fits (lit< tt) (λ i l. sym (bit_within w i l) ∙ c i ∙ sym (flag-zero i))),
)

not_false : (b : Bool) → false ≡ not b → b ≡ true
not_false true h = refl
not_false false h = cc

not_true : (b : Bool) → true ≡ not b → b ≡ false
not_true true h = cc
not_true false h = refl

pub few_empty : (o : Option ℕ) (r : Bool) → is_some o ≡ not r → IsTrue r ↔ ((k : ℕ) → is_one o k ≡ false)
few_empty None r h = (λ e k. refl, λ c. not_false r h)
few_empty (Some m) r h = (λ e. absurd (true≢false (sym e ∙ not_true r h)), λ c. absurd (true≢false (sym (eq-eqb m m refl) ∙ c m)))

pub many_filled : (bs : List ℕ) → HasTwo bs → IsTrue false ↔ ((k : ℕ) → flag_at bs k ≡ false)
many_filled bs t = (λ e. absurd (false≢true e), λ c. absurd (true≢false (sym t.first_set ∙ c t.first)))

-- ---- the same members
level_exact : (m n : ℕ) (bs : List ℕ) → m ≡ n → IsExact n bs → IsExact m bs
level_exact m n bs e h = subst (λ (k : ℕ). IsExact k bs) (sym e) h

pub words_same : (m n x y : ℕ) → IsWord m x → IsWord n y → IsTrue (eqb x y) ↔ AreSame (Word m x) (Word n y)
words_same m n x y a b = (
  λ e k. ap (λ (w : ℕ). bit_in w k) (eqb-true x y e),
  λ h. eq-eqb x y (same_word x y a.fits b.fits (λ i l. sym (bit_within x i l) ∙ h i ∙ bit_within y i l)),
)

few_equal : (a b : Option ℕ) → ((k : ℕ) → is_one a k ≡ is_one b k) → a ≡ b
few_equal None None h = refl
few_equal None (Some m) h = absurd (false≢true (h m ∙ eq-eqb m m refl))
few_equal (Some m) None h = absurd (true≢false (sym (eq-eqb m m refl) ∙ h m))
few_equal (Some m) (Some n) h = ap Some (sym (eqb-true n m (sym (h m) ∙ eq-eqb m m refl)))

one_equal : (a b : Option ℕ) → option_eq eqb a b ≡ true → a ≡ b
one_equal None None e = refl
one_equal None (Some n) e = cc
one_equal (Some m) None e = cc
one_equal (Some m) (Some n) e = ap Some (eqb-true m n e)

one_same : (a : Option ℕ) → option_eq eqb a a ≡ true
one_same None = refl
one_same (Some m) = eq-eqb m m refl

pub few_same : (a b : Option ℕ) (r : Bool) → r ≡ option_eq eqb a b → IsTrue r ↔ ((k : ℕ) → is_one a k ≡ is_one b k)
few_same a b r h = (
  λ e k. ap (λ (o : Option ℕ). is_one o k) (one_equal a b (sym h ∙ e)),
  λ s. h ∙ subst (λ (o : Option ℕ). option_eq eqb a o ≡ true) (few_equal a b s) (one_same a),
)

many_equal : (size : ℕ) (xs ys : List ℕ) → IsExact size xs → IsExact size ys → ((k : ℕ) → flag_at xs k ≡ flag_at ys k) → xs ≡ ys
many_equal size xs ys a b h =
    ext_get_or 0 xs ys (a.count ∙ sym b.count) (λ j _. same_word (get_or xs j 0) (get_or ys j 0) (a.words j) (b.words j)
    (λ i l. sym (flag_at-place xs j i l) ∙ h (64 * j + i) ∙ flag_at-place ys j i l))

pub many_same : (m n : ℕ) (xs ys : List ℕ) (r : Bool) → AreForms (Many m xs) (Many n ys) → r ≡ pointwise eqb xs ys → IsTrue r ↔ AreSame (Many m xs) (Many n ys)
many_same m n xs ys r f h =
    let d = slice_eq-Decides Decides-eqb xs ys r h in (
      λ e k. ap (λ (bs : List ℕ). flag_at bs k) (d.0 e),
      λ s. d.1 (many_equal m xs ys f.left.exact (level_exact m n ys f.same_size f.right.exact) s),
    )

-- sets that are kept in two ways differ
pub few_differ : (m : ℕ) (a : Option ℕ) (g : Form) → AreForms (Few m a) g → AreSame (Few m a) g → (n : ℕ) × (o : Option ℕ) × (g ≡ Few n o)
few_differ m a (Word n y) h s = absurd (omega (arith, h.right.small, h.left.large, h.same_size))
few_differ m a (Few n o) h s = (n, o, refl)
few_differ m a (Many n ys) h s = absurd (not_two a ys h.right.two (λ k e. s k ∙ e))

pub many_differ : (m : ℕ) (xs : List ℕ) (g : Form) → AreForms (Many m xs) g → AreSame (Many m xs) g → (n : ℕ) × (ys : List ℕ) × (g ≡ Many n ys)
many_differ m xs (Word n y) h s = absurd (omega (arith, h.right.small, h.left.large, h.same_size))
many_differ m xs (Few n o) h s = absurd (not_two o xs h.left.two (λ k e. sym (s k) ∙ e))
many_differ m xs (Many n ys) h s = (n, ys, refl)

-- ---- inclusion

pub words_within : (m n x y : ℕ) → IsWord m x → IsWord n y → IsTrue (eqb (bit_and x (bit_not w64 y)) 0) ↔ AreWithin (Word m x) (Word n y)
words_within m n x y a b = (
  λ e k h. inside k h (eqb-true (bit_and x (bit_not w64 y)) 0 e) (cases_lt k 64),
  λ h. eq-eqb (bit_and x (bit_not w64 y)) 0 (same_word (bit_and x (bit_not w64 y)) 0 (less_flagwise.fits x y a.fits b.fits) (lit< tt)
      (λ i l. flag-and_not x y i b.fits l ∙ out (flag x i) (flag y i) (λ p. sym (bit_within y i l) ∙ h i (bit_within x i l ∙ p)) ∙ sym (flag-zero i))),
)
  where
    out : (p q : Bool) → (p ≡ true → q ≡ true) → cond q false p ≡ false
    out true q h = ap (λ (v : Bool). cond v false true) (h refl)
    out false true h = refl
    out false false h = refl

    into : (p q : Bool) → cond q false p ≡ false → p ≡ true → q ≡ true
    into p true e f = refl
    into p false e f = absurd (true≢false (sym f ∙ e))

    inside : (k : ℕ) → bit_in x k ≡ true → bit_and x (bit_not w64 y) ≡ 0 → (k < 64) ⊎ (64 ≤ k) → bit_in y k ≡ true
    inside k h e (inl l) = bit_within y k l ∙ into (flag x k) (flag y k) (sym (flag-and_not x y k b.fits l) ∙ ap (λ (w : ℕ). flag w k) e ∙ flag-zero k) (sym (bit_within x k l) ∙ h)
    inside k h e (inr l) = absurd (true≢false (sym h ∙ beyond x k l))

many_zero : (size : ℕ) (bs : List ℕ) (r : Bool) → IsExact size bs → r ≡ list_all (λ x. eqb x 0) bs → (IsTrue r → (k : ℕ) → flag_at bs k ≡ false) × (((k : ℕ) → flag_at bs k ≡ false) → IsTrue r)
many_zero size bs r h e = (λ t k. all_clear bs (sym e ∙ t) k, λ c. e ∙ clear_all size bs h c)

pub many_within : (m n : ℕ) (xs ys : List ℕ) (r : Bool) → AreForms (Many m xs) (Many n ys)
    → r ≡ list_all (λ p. eqb (bit_and p.0 (bit_not w64 p.1)) 0) (zip xs ys) → IsTrue r ↔ AreWithin (Many m xs) (Many n ys)
many_within m n xs ys r f e =
    let z = many_zero m (map (λ (p : ℕ × ℕ). bit_and p.0 (bit_not w64 p.1)) (zip xs ys)) r
    (zip_exact m xs ys (λ x y. bit_and x (bit_not w64 y)) in_first less_flagwise f.left.exact (level_exact m n ys f.same_size f.right.exact))
    (e ∙ all_of_map (λ (p : ℕ × ℕ). bit_and p.0 (bit_not w64 p.1)) (zip xs ys)) in (
      λ t k h. into (flag_at xs k) (flag_at ys k) (sym (each k) ∙ z.0 t k) h,
      λ h. z.1 (λ k. each k ∙ out (flag_at xs k) (flag_at ys k) (h k)),
    )
  where
    each : (k : ℕ) → flag_at (map (λ (p : ℕ × ℕ). bit_and p.0 (bit_not w64 p.1)) (zip xs ys)) k ≡ cond (flag_at ys k) false (flag_at xs k)
    each k = zip_flag m xs ys (λ x y. bit_and x (bit_not w64 y)) in_first less_flagwise f.left.exact (level_exact m n ys f.same_size f.right.exact) k

    out : (p q : Bool) → (p ≡ true → q ≡ true) → cond q false p ≡ false
    out true q h = ap (λ (v : Bool). cond v false true) (h refl)
    out false true h = refl
    out false false h = refl

    into : (p q : Bool) → cond q false p ≡ false → p ≡ true → q ≡ true
    into p true e f = refl
    into p false e f = absurd (true≢false (sym f ∙ e))

-- two members aren't within one, and no set of one size is kept as another size is
pub many_without : (m : ℕ) (xs : List ℕ) (g : Form) → AreForms (Many m xs) g → AreWithin (Many m xs) g → (n : ℕ) × (ys : List ℕ) × (g ≡ Many n ys)
many_without m xs (Word n y) h s = absurd (omega (arith, h.right.small, h.left.large, h.same_size))
many_without m xs (Few n o) h s = absurd (not_two o xs h.left.two s)
many_without m xs (Many n ys) h s = (n, ys, refl)

-- ---- no common member

pub words_apart : (m n x y : ℕ) → IsWord m x → IsWord n y → IsTrue (eqb (bit_and x y) 0) ↔ AreApart (Word m x) (Word n y)
words_apart m n x y a b = (
  λ e k h. inside k h (eqb-true (bit_and x y) 0 e) (cases_lt k 64),
  λ h. eq-eqb (bit_and x y) 0 (same_word (bit_and x y) 0 (and_flagwise.fits x y a.fits b.fits) (lit< tt)
      (λ i l. flag-and x y i ∙ out (flag x i) (flag y i) (λ p. sym (bit_within y i l) ∙ h i (bit_within x i l ∙ p)) ∙ sym (flag-zero i))),
)
  where
    out : (p q : Bool) → (p ≡ true → q ≡ false) → cond p q false ≡ false
    out true q h = h refl
    out false q h = refl

    into : (p q : Bool) → cond p q false ≡ false → p ≡ true → q ≡ false
    into true q e f = e
    into false q e f = absurd (false≢true f)

    inside : (k : ℕ) → bit_in x k ≡ true → bit_and x y ≡ 0 → (k < 64) ⊎ (64 ≤ k) → bit_in y k ≡ false
    inside k h e (inl l) = bit_within y k l ∙ into (flag x k) (flag y k) (sym (flag-and x y k) ∙ ap (λ (w : ℕ). flag w k) e ∙ flag-zero k) (sym (bit_within x k l) ∙ h)
    inside k h e (inr l) = beyond y k l

pub many_apart : (m n : ℕ) (xs ys : List ℕ) (r : Bool) → AreForms (Many m xs) (Many n ys)
    → r ≡ list_all (λ p. eqb (bit_and p.0 p.1) 0) (zip xs ys) → IsTrue r ↔ AreApart (Many m xs) (Many n ys)
many_apart m n xs ys r f e =
    let z = many_zero m (map (λ (p : ℕ × ℕ). bit_and p.0 p.1) (zip xs ys)) r
    (zip_exact m xs ys bit_and in_both and_flagwise f.left.exact (level_exact m n ys f.same_size f.right.exact))
    (e ∙ all_of_map (λ (p : ℕ × ℕ). bit_and p.0 p.1) (zip xs ys)) in (
      λ t k h. into (flag_at xs k) (flag_at ys k) (sym (each k) ∙ z.0 t k) h,
      λ h. z.1 (λ k. each k ∙ out (flag_at xs k) (flag_at ys k) (h k)),
    )
  where
    each : (k : ℕ) → flag_at (map (λ (p : ℕ × ℕ). bit_and p.0 p.1) (zip xs ys)) k ≡ cond (flag_at xs k) (flag_at ys k) false
    each k = zip_flag m xs ys bit_and in_both and_flagwise f.left.exact (level_exact m n ys f.same_size f.right.exact) k

    out : (p q : Bool) → (p ≡ true → q ≡ false) → cond p q false ≡ false
    out true q h = h refl
    out false q h = refl

    into : (p q : Bool) → cond p q false ≡ false → p ≡ true → q ≡ false
    into true q e f = e
    into false q e f = absurd (false≢true f)
