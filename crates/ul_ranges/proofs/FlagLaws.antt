-- Laws of sets as lists of flags.
use Rattle.std.proofs.Common.{◌≡◌, ℕ, zero, suc, List, [], ◌∷◌, ◌++◌, Bool, true, false, cond, refl, ap, ◌∙◌, sym, get_or, ◌+◌, ◌<◌, length, arith, eqb, inl, inr, None, Some, zero-add, nat_lt}
use Rattle.std.specs.Prelude.{IsTrue, ◌↔◌, Contains, All, find}
use Rattle.std.specs.List.{list_any}
use Rattle.std.proofs.lemmas.Bool.{cases_lt, cases_Bool, or_cases, eqb-true, eq-eqb, ltb-true, lt-ltb, both_ways, cond-true, cond-false}
use Rattle.std.proofs.lemmas.List.Elements.{All-nil, All-cons, All-head, All-tail}
use Rattle.std.proofs.lemmas.List.{ext_get_or, get_or_past}
use Rattle.std.proofs.lemmas.List.FromFn.{length-map-range_with_len, get_or-map-range_with_len, map-range_with_len_more}
use Rattle.std.proofs.lemmas.List.Folds.{list_any_at}
use Rattle.ul_ranges.specs.Flags.{has, both, either, less, is_apart, is_blank, is_within, set_of, front}

pub cond_same : (b : Bool) → cond b false false ≡ false
cond_same true = refl
cond_same false = refl

cond_or : (b : Bool) → cond b true false ≡ b
cond_or true = refl
cond_or false = refl

pub has-both : (k : ℕ) (s t : List Bool) → has k (both s t) ≡ cond (has k s) (has k t) false
has-both k [] t = refl
has-both k (x ∷ xs) [] = sym (cond_same (get_or (x ∷ xs) k false))
has-both zero (x ∷ xs) (y ∷ ys) = refl
has-both (suc k) (x ∷ xs) (y ∷ ys) = has-both k xs ys

pub has-either : (k : ℕ) (s t : List Bool) → has k (either s t) ≡ cond (has k s) true (has k t)
has-either k [] t = refl
has-either k (x ∷ xs) [] = sym (cond_or (get_or (x ∷ xs) k false))
has-either zero (x ∷ xs) (y ∷ ys) = refl
has-either (suc k) (x ∷ xs) (y ∷ ys) = has-either k xs ys

pub has-less : (k : ℕ) (s t : List Bool) → has k (less s t) ≡ cond (has k t) false (has k s)
has-less k [] t = sym (cond_same (has k t))
has-less k (x ∷ xs) [] = refl
has-less zero (x ∷ xs) (y ∷ ys) = refl
has-less (suc k) (x ∷ xs) (y ∷ ys) = has-less k xs ys

pub length-both : (s t : List Bool) → length s ≡ length t → length (both s t) ≡ length s
length-both [] t e = refl
length-both (x ∷ xs) [] e = cc
length-both (x ∷ xs) (y ∷ ys) e = ap suc (length-both xs ys cc)

pub length-either : (s t : List Bool) → length s ≡ length t → length (either s t) ≡ length s
length-either [] t e = sym e
length-either (x ∷ xs) [] e = refl
length-either (x ∷ xs) (y ∷ ys) e = ap suc (length-either xs ys cc)

-- also at two sizes
pub length-less : (s t : List Bool) → length (less s t) ≡ length s
length-less [] t = refl
length-less (x ∷ xs) [] = refl
length-less (x ∷ xs) (y ∷ ys) = ap suc (length-less xs ys)

pub blank_none : (s : List Bool) → is_blank s ≡ true → (k : ℕ) → has k s ≡ false
blank_none [] e k = refl
blank_none (true ∷ xs) e k = cc
blank_none (false ∷ xs) e zero = refl
blank_none (false ∷ xs) e (suc k) = blank_none xs e k

pub blank_some : (s : List Bool) → is_blank s ≡ false → (k : ℕ) × (has k s ≡ true)
blank_some [] e = cc
blank_some (true ∷ xs) e = (0, refl)
blank_some (false ∷ xs) e = let r = blank_some xs e in (suc r.0, r.1)

pub none_blank : (s : List Bool) → ((k : ℕ) → has k s ≡ false) → is_blank s ≡ true
none_blank [] h = refl
none_blank (true ∷ xs) h = let e : true ≡ false = h 0 in cc
none_blank (false ∷ xs) h = none_blank xs (λ k. h (suc k))

pub same_sets : (s t : List Bool) → length s ≡ length t → ((k : ℕ) → has k s ≡ has k t) → s ≡ t
same_sets s t e h = ext_get_or false s t e (λ k _. h k)

-- ---- inclusion
less_is_false : (x y : Bool) → (x ≡ true → y ≡ true) → cond y false x ≡ false
less_is_false true y h = rw (h refl) refl
less_is_false false true h = refl
less_is_false false false h = refl

less_of_true : (x y : Bool) → cond y false x ≡ false → x ≡ true → y ≡ true
less_of_true x true e h = refl
less_of_true x false e h = cc

pub within : (s t : List Bool) → IsTrue (is_within s t) ↔ ((k : ℕ) → IsTrue (has k s) → IsTrue (has k t))
within s t = (
  λ e k. less_of_true (has k s) (has k t) (sym (has-less k s t) ∙ blank_none (less s t) e k),
  λ h. none_blank (less s t) (λ k. has-less k s t ∙ less_is_false (has k s) (has k t) (h k)),
)

both_is_false : (x y : Bool) → (x ≡ true → y ≡ false) → cond x y false ≡ false
both_is_false true y h = h refl
both_is_false false y h = refl

both_of_true : (x y : Bool) → cond x y false ≡ false → x ≡ true → y ≡ false
both_of_true true y e h = e
both_of_true false y e h = cc

pub apart : (s t : List Bool) → IsTrue (is_apart s t) ↔ ((k : ℕ) → IsTrue (has k s) → has k t ≡ false)
apart s t = (
  λ e k. both_of_true (has k s) (has k t) (sym (has-both k s t) ∙ blank_none (both s t) e k),
  λ h. none_blank (both s t) (λ k. has-both k s t ∙ both_is_false (has k s) (has k t) (h k)),
)

-- ---- a set made of a list
pub length-set_of : (size : ℕ) (members : List ℕ) → length (set_of size members) ≡ size
unfolding set_of
length-set_of size members = length-map-range_with_len (λ k. list_any (λ m. eqb m k) members) 0 size

pub has-set_of : (k size : ℕ) (members : List ℕ) → k < size → has k (set_of size members) ≡ list_any (λ m. eqb m k) members
unfolding set_of
has-set_of k size members h =
    get_or-map-range_with_len (λ k. list_any (λ m. eqb m k) members) 0 size k k false h (zero-add k)

-- the next number's flag at the end
pub set_more : (n : ℕ) (members : List ℕ) → set_of n members ++ list_any (λ m. eqb m n) members ∷ [] ≡ set_of (n + 1) members
unfolding set_of
set_more n members = sym (map-range_with_len_more (λ k. list_any (λ m. eqb m k) members) 0 n n (zero-add n))

pub any_in : (k : ℕ) (ms : List ℕ) → list_any (λ m. eqb m k) ms ≡ true → Contains ms k
any_in k [] e = cc
any_in k (m ∷ ms) e =
    elim (or_cases (eqb m k) (list_any (λ m. eqb m k) ms) e) [
      | inl h ↦ (0, omega arith, eqb-true m k h)
      | inr h ↦ let r = any_in k ms h in (suc r.0, omega (arith, r.1), r.2)
    ]

pub in_any : (k : ℕ) (ms : List ℕ) → Contains ms k → list_any (λ m. eqb m k) ms ≡ true
in_any k ms c = list_any_at (λ m. eqb m k) ms c.0 k c.1 (eq-eqb (get_or ms c.0 k) k c.2)

pub set_members : (k size : ℕ) (members : List ℕ) → IsTrue (has k (set_of size members)) ↔ ((k < size) × Contains members k)
set_members k size members = (
  λ e. elim (cases_lt k size) [
    | inl h ↦ (h, any_in k members (sym (has-set_of k size members h) ∙ e))
    | inr h ↦
        let past : has k (set_of size members) ≡ false =
        get_or_past (set_of size members) k false (let l = length-set_of size members in omega arith) in
        absurd (both_ways (has k (set_of size members)) past e)
  ],
  λ p. has-set_of k size members p.0 ∙ in_any k members p.1,
)

-- ---- the numbers below a count
pub length-front : (size count : ℕ) → length (front size count) ≡ size
unfolding front
length-front size count = length-map-range_with_len (λ k. nat_lt k count) 0 size

pub has-front : (k size count : ℕ) → k < size → has k (front size count) ≡ nat_lt k count
unfolding front
has-front k size count h = get_or-map-range_with_len (λ k. nat_lt k count) 0 size k k false h (zero-add k)

pub front_members : (k size count : ℕ) → IsTrue (has k (front size count)) ↔ ((k < size) × (k < count))
front_members k size count = (
  λ e. elim (cases_lt k size) [
    | inl h ↦ (h, ltb-true k count (sym (has-front k size count h) ∙ e))
    | inr h ↦
        let past : has k (front size count) ≡ false =
        get_or_past (front size count) k false (let l = length-front size count in omega arith) in
        absurd (both_ways (has k (front size count)) past e)
  ],
  λ p. has-front k size count p.0 ∙ lt-ltb k count p.1,
)

-- ---- the first of a list
pub first_none : (p : ℕ → Bool) (xs : List ℕ) → find p xs ≡ None → All (λ k. p k ≡ false) xs
first_none p [] e = All-nil (λ k. p k ≡ false)
first_none p (x ∷ xs) e =
    elim (cases_Bool (p x)) [
      | inl h ↦ let f : Some x ≡ None = sym (cond-true (p x) (Some x) (find p xs) h) ∙ e in cc
      | inr h ↦ All-cons (λ k. p k ≡ false) x xs h (first_none p xs (sym (cond-false (p x) (Some x) (find p xs) h) ∙ e))
    ]

pub none_first : (p : ℕ → Bool) (xs : List ℕ) → All (λ k. p k ≡ false) xs → find p xs ≡ None
none_first p [] a = refl
none_first p (x ∷ xs) a =
    cond-false (p x) (Some x) (find p xs) (All-head (λ k. p k ≡ false) x xs a) ∙ none_first p xs (All-tail (λ k. p k ≡ false) x xs a)

pub first_some : (p : ℕ → Bool) (xs : List ℕ) (v : ℕ) → find p xs ≡ Some v
    → (front : List ℕ) × (back : List ℕ) × (xs ≡ front ++ v ∷ back) × (p v ≡ true) × All (λ k. p k ≡ false) front
first_some p [] v e = cc
first_some p (x ∷ xs) v e =
    elim (cases_Bool (p x)) [
      | inl h ↦
          let f : Some x ≡ Some v = sym (cond-true (p x) (Some x) (find p xs) h) ∙ e in
          let same : x ≡ v = cc in
          ([], xs, ap (λ y. y ∷ xs) same, ap p (sym same) ∙ h, All-nil (λ k. p k ≡ false))
      | inr h ↦
          let r = first_some p xs v (sym (cond-false (p x) (Some x) (find p xs) h) ∙ e) in
          (x ∷ r.0, r.1, ap (λ l. x ∷ l) r.2, r.3, All-cons (λ k. p k ≡ false) x r.0 h r.4)
    ]
