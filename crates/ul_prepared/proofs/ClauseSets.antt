-- Sets of versions that meet clauses.
use Rattle.std.specs.Prelude.{All}
use Rattle.std.specs.List.{range_with_len, list_any}
use Rattle.std.specs.Ordering.{is_eq, is_gt, is_lt}
use Rattle.std.specs.declared.cmp.Ordering.{Ordering}
use Rattle.std.specs.declared.cmp.Ordering.TheVariants.{Less, Equal, Greater}
use Rattle.std.proofs.Common.{◌≡◌, ◌<◌, ◌≤◌, ◌+◌, ◌-◌, ℕ, zero, suc, List, [], ◌∷◌, ◌++◌, length, get_or, map, filter, take, cond, not, replicate, ◌&&◌, ◌||◌, Bool, true, false, refl, sym, ap, subst, ◌∙◌, inl, inr, arith, eqb, nat_lt}
use Rattle.std.proofs.lemmas.Bool.{cases_lt, cases_eq, eq-eqb, ne_eqb, lt-ltb, le-ltb}
use Rattle.std.proofs.lemmas.List.{ext_get_or, get_or-map, length-map, take_more}
use Rattle.std.proofs.lemmas.List.Elements.{All-filter, All-from_get_or}
use Rattle.std.proofs.lemmas.List.Folds.{list_all-append}
use Rattle.std.proofs.lemmas.List.FromFn.{get_or-range_with_len, length-range_with_len}
use Rattle.std.proofs.lemmas.Option.{slice_get-get_or}
use Rattle.ul_version.specs.Fields.{Fields, plain}
use Rattle.ul_ranges.specs.Flags.{both, either, front, has, less, set_of}
use Rattle.ul_ranges.proofs.ForCallers.{has-either, has-less, has-front, has-set_of, length-either, length-less, length-front, length-set_of}
use Rattle.ul_specifier.specs.Clauses.{ClauseFields}
use Rattle.ul_specifier.specs.Meaning.{meets_clause, meets_list}
use Rattle.ul_prepared.specs.Clauses.{admits_after, equals_by, is_compatible_with, is_from, is_met_at, is_strict, is_up_to}
use Rattle.ul_prepared.specs.Parts.{CountsBefore, CountsThrough, side}
use Rattle.ul_prepared.specs.declared.parts.Part.{Part}
use Rattle.ul_prepared.specs.declared.parts.Part.TheVariants.{Public, Release, Prefix}
use Rattle.ul_prepared.proofs.Admitted.{met_before, met_after}

-- ---- which of the numbers from one on are kept

kept_not : (p : ℕ → Bool) (a k : ℕ) (r : List ℕ) (b : Bool) → eqb a k ≡ false → list_any (λ m. eqb m k) r ≡ false → list_any (λ m. eqb m k) (cond b (a ∷ r) r) ≡ false
kept_not p a k r true e h = ap (λ (x : Bool). x || list_any (λ m. eqb m k) r) e ∙ h
kept_not p a k r false e h = h

kept_later : (p : ℕ → Bool) (a k : ℕ) (r : List ℕ) (b v : Bool) → eqb a k ≡ false → list_any (λ m. eqb m k) r ≡ v → list_any (λ m. eqb m k) (cond b (a ∷ r) r) ≡ v
kept_later p a k r true v e h = ap (λ (x : Bool). x || list_any (λ m. eqb m k) r) e ∙ h
kept_later p a k r false v e h = h

kept_here : (a k : ℕ) (r : List ℕ) (b : Bool) → eqb a k ≡ true → list_any (λ m. eqb m k) r ≡ false → list_any (λ m. eqb m k) (cond b (a ∷ r) r) ≡ b
kept_here a k r true e h = ap (λ (x : Bool). x || list_any (λ m. eqb m k) r) e
kept_here a k r false e h = h

-- none outside the range is
any_below : (p : ℕ → Bool) (a n k : ℕ) → k < a → list_any (λ m. eqb m k) (filter p (range_with_len a n)) ≡ false
any_below p a zero k l = refl
any_below p a (suc n) k l = kept_not p a k (filter p (range_with_len (a + 1) n)) (p a) (ne_eqb a k (λ e. absurd (omega (arith, e, l)))) (any_below p (a + 1) n k (omega (arith, l)))

any_past : (p : ℕ → Bool) (a n k : ℕ) → a + n ≤ k → list_any (λ m. eqb m k) (filter p (range_with_len a n)) ≡ false
any_past p a zero k l = refl
any_past p a (suc n) k l = kept_not p a k (filter p (range_with_len (a + 1) n)) (p a) (ne_eqb a k (λ e. absurd (omega (arith, e, l)))) (any_past p (a + 1) n k (omega (arith, l)))

-- and one in it exactly where it passes
any_at : (p : ℕ → Bool) (a n k : ℕ) → a ≤ k → k < a + n → list_any (λ m. eqb m k) (filter p (range_with_len a n)) ≡ p k
any_at p a zero k l m = absurd (omega (arith, l, m))
any_at p a (suc n) k l m = elim (cases_eq a k) [
  | inl e ↦ kept_here a k (filter p (range_with_len (a + 1) n)) (p a) (eq-eqb a k e) (any_below p (a + 1) n k (omega (arith, e))) ∙ ap p e
  | inr ne ↦ kept_later p a k (filter p (range_with_len (a + 1) n)) (p a) (p k) (ne_eqb a k ne) (any_at p (a + 1) n k (omega (arith, l, ne)) (omega (arith, m)))
]

pub places_below : (p : ℕ → Bool) (low n size : ℕ) → low + n ≤ size → All (λ (m : ℕ). m < size) (filter p (range_with_len low n))
places_below p low n size l = All-filter p (λ (m : ℕ). m < size) (range_with_len low n)
    (All-from_get_or (λ (m : ℕ). m < size) (range_with_len low n) 0 (λ i h. let w : i < n = subst (λ (m : ℕ). i < m) (length-range_with_len low n) h in
    subst (λ (m : ℕ). m < size) (sym (get_or-range_with_len low n i 0 w)) (omega (arith, w, l))))

is_met_here : (s : ClauseFields) (vs : List Fields) (k : ℕ) (d : Fields) → k < length vs → is_met_at s vs k ≡ meets_clause s (get_or vs k d)
is_met_here s vs k d l = ap (λ o. Rattle.ul_prepared.specs.Clauses.is_met s o) (slice_get-get_or vs k d l)

-- ---- the numbers from one on that are below another

-- flags that say of each version whether it passes
shown : (s : List Bool) (p : Fields → Bool) (vs : List Fields) → length s ≡ length vs → ((k : ℕ) → k < length vs → has k s ≡ p (get_or vs k (plain []))) → s ≡ map p vs
shown s p vs e h = ext_get_or false s (map p vs) (e ∙ sym (length-map vs p)) (λ k l.
    let m : k < length vs = subst (λ (n : ℕ). k < n) e l in
    h k m ∙ sym (get_or-map p vs k (plain []) false m))

abbrev range : ℕ → ℕ → ℕ → List Bool
range size low high = less (front size high) (front size low)

range_size : (size low high : ℕ) → length (range size low high) ≡ size
range_size size low high = length-less (front size high) (front size low) ∙ length-front size high

range_has : (k size low high : ℕ) → k < size → has k (range size low high) ≡ cond (nat_lt k low) false (nat_lt k high)
range_has k size low high l =
    has-less k (front size high) (front size low)
    ∙ ap (λ (x : Bool). cond x false (has k (front size high))) (has-front k size low l)
    ∙ ap (λ (x : Bool). cond (nat_lt k low) false x) (has-front k size high l)

cond_none : (b : Bool) → cond b false false ≡ false
cond_none true = refl
cond_none false = refl

range_below : (k low high : ℕ) → k < low → cond (nat_lt k low) false (nat_lt k high) ≡ false
range_below k low high l = ap (λ (x : Bool). cond x false (nat_lt k high)) (lt-ltb k low l)

range_inside : (k low high : ℕ) → low ≤ k → k < high → cond (nat_lt k low) false (nat_lt k high) ≡ true
range_inside k low high l m = ap (λ (x : Bool). cond x false (nat_lt k high)) (le-ltb k low l) ∙ lt-ltb k high m

range_past : (k low high : ℕ) → high ≤ k → cond (nat_lt k low) false (nat_lt k high) ≡ false
range_past k low high l = ap (λ (x : Bool). cond (nat_lt k low) false x) (le-ltb k high l) ∙ cond_none (nat_lt k low)

-- ---- versions beside a version by a part

tied : (o : Ordering) → is_lt o ≡ false → is_gt o ≡ false → is_eq o ≡ true
tied Less l g = cc
tied Equal l g = refl
tied Greater l g = cc

-- those that equal it stand between two counts
pub equal_is : (part : Part) (v : Fields) (vs : List Fields) (low high : ℕ) → CountsBefore part v vs low → CountsThrough part v vs high
    → less (front (length vs) high) (front (length vs) low) ≡ map (equals_by part v) vs
equal_is part v vs low high before through = shown (range (length vs) low high) (equals_by part v) vs (range_size (length vs) low high) (λ k l.
    range_has k (length vs) low high l ∙ by_place k l)
  where
    by_place : (k : ℕ) → k < length vs → cond (nat_lt k low) false (nat_lt k high) ≡ equals_by part v (get_or vs k (plain []))
    by_place k l = elim (cases_lt k low) [
      | inl f ↦ range_below k low high f ∙ sym (ap is_eq (before.below k (plain []) f))
      | inr f ↦ elim (cases_lt k high) [
        | inl g ↦ range_inside k low high f g ∙ sym (tied (side part v (get_or vs k (plain []))) (before.from k (plain []) f l) (through.below k (plain []) g))
        | inr g ↦ range_past k low high g ∙ sym (ap is_eq (through.from k (plain []) g l))
      ]
    ]

-- those that are at least it stand from a count on
pub from_is : (v : Fields) (vs : List Fields) (low : ℕ) → CountsBefore Public v vs low
    → less (front (length vs) (length vs)) (front (length vs) low) ≡ map (is_from v) vs
from_is v vs low before = shown (range (length vs) low (length vs)) (is_from v) vs (range_size (length vs) low (length vs)) (λ k l.
    range_has k (length vs) low (length vs) l ∙ by_place k l)
  where
    by_place : (k : ℕ) → k < length vs → cond (nat_lt k low) false (nat_lt k (length vs)) ≡ is_from v (get_or vs k (plain []))
    by_place k l = elim (cases_lt k low) [
      | inl f ↦ range_below k low (length vs) f ∙ sym (ap (λ (o : Ordering). not (is_lt o)) (before.below k (plain []) f))
      | inr f ↦ range_inside k low (length vs) f l ∙ sym (ap not (before.from k (plain []) f l))
    ]

-- those that are at most it are a front
pub up_to_is : (v : Fields) (vs : List Fields) (high : ℕ) → CountsThrough Public v vs high → front (length vs) high ≡ map (is_up_to v) vs
up_to_is v vs high through = shown (front (length vs) high) (is_up_to v) vs (length-front (length vs) high) (λ k l.
    has-front k (length vs) high l ∙ by_place k l)
  where
    by_place : (k : ℕ) → k < length vs → nat_lt k high ≡ is_up_to v (get_or vs k (plain []))
    by_place k l = elim (cases_lt k high) [
      | inl f ↦ lt-ltb k high f ∙ sym (ap not (through.below k (plain []) f))
      | inr f ↦ le-ltb k high f ∙ sym (ap (λ (o : Ordering). not (is_gt o)) (through.from k (plain []) f l))
    ]

-- those that don't pass are all the others
pub others_are : (p : Fields → Bool) (vs : List Fields) → less (replicate (length vs) true) (map p vs) ≡ map (λ c. not (p c)) vs
others_are p [] = refl
others_are p (v ∷ vs) = ap (λ (x : Bool). x ∷ less (replicate (length vs) true) (map p vs)) (turned (p v)) ∙ ap (λ (l : List Bool). not (p v) ∷ l) (others_are p vs)
  where
    turned : (x : Bool) → cond x false true ≡ not x
    turned true = refl
    turned false = refl

-- ---- `>` and `<`: those of one release that meet the clause, and all after or all before them

abbrev value : Bool → Bool → Bool
value m o = cond m true o

pub from_within : (after : Bool) (high size from : ℕ) → from ≡ cond after high 0 → high ≤ size → from ≤ size
from_within true high size from e l = omega (arith, e, l)
from_within false high size from e l = omega (arith, e)

less_greater : Less ≡ Greater → ⊥
less_greater e = cc

-- no more come before a version than don't come after it
pub counts_rise : (part : Part) (v : Fields) (vs : List Fields) (low high : ℕ) → CountsBefore part v vs low → CountsThrough part v vs high → low ≤ high
counts_rise part v vs low high b t = elim (cases_lt high low) [
  | inl l ↦ let w = b.within in absurd (less_greater (sym (b.below high (plain []) l) ∙ t.from high (plain []) (omega arith) (omega (arith, l, w))))
  | inr l ↦ l
]

-- the range of the others, below, in and past the release
others_before : (after : Bool) (k low high size from to : ℕ) → from ≡ cond after high 0 → to ≡ cond after size low → low ≤ high → k < low
    → cond (nat_lt k from) false (nat_lt k to) ≡ not after
others_before true k low high size from to e h r l = range_below k from to (omega (arith, e, r, l))
others_before false k low high size from to e h r l = range_inside k from to (omega (arith, e)) (omega (arith, h, l))

others_between : (after : Bool) (k low high size from to : ℕ) → from ≡ cond after high 0 → to ≡ cond after size low → low ≤ k → k < high
    → cond (nat_lt k from) false (nat_lt k to) ≡ false
others_between true k low high size from to e h l m = range_below k from to (omega (arith, e, m))
others_between false k low high size from to e h l m = range_past k from to (omega (arith, h, l))

others_after : (after : Bool) (k low high size from to : ℕ) → from ≡ cond after high 0 → to ≡ cond after size low → low ≤ high → high ≤ k → k < size
    → cond (nat_lt k from) false (nat_lt k to) ≡ after
others_after true k low high size from to e h r l m = range_inside k from to (omega (arith, e, l)) (omega (arith, h, m))
others_after false k low high size from to e h r l m = range_past k from to (omega (arith, h, r, l))

cond_whole : (b : Bool) → cond b true false ≡ b
cond_whole true = refl
cond_whole false = refl

pub strict_is : (s : ClauseFields) (vs : List Fields) (low high from to n : ℕ) → is_strict s.op ≡ true → CountsBefore Release s.version vs low → CountsThrough Release s.version vs high
    → from ≡ cond (admits_after s.op) high 0 → to ≡ cond (admits_after s.op) (length vs) low → n ≡ high - low
    → either (set_of (length vs) (filter (is_met_at s vs) (range_with_len low n))) (less (front (length vs) to) (front (length vs) from)) ≡ map (meets_clause s) vs
strict_is s vs low high from to n strict before through ef et en = shown whole (meets_clause s) vs size (λ k l. flag k l ∙ by_place k l)
  where
    members : List ℕ
    members = filter (is_met_at s vs) (range_with_len low n)

    others : List Bool
    others = range (length vs) from to

    whole : List Bool
    whole = either (set_of (length vs) members) others

    size : length whole ≡ length vs
    size = length-either (set_of (length vs) members) others (length-set_of (length vs) members ∙ sym (range_size (length vs) from to)) ∙ length-set_of (length vs) members

    any : ℕ → Bool
    any k = list_any (λ m. eqb m k) members

    other : ℕ → Bool
    other k = cond (nat_lt k from) false (nat_lt k to)

    flag : (k : ℕ) → k < length vs → has k whole ≡ value (any k) (other k)
    flag k l =
        has-either k (set_of (length vs) members) others
        ∙ ap (λ (x : Bool). cond x true (has k others)) (has-set_of k (length vs) members l)
        ∙ ap (λ (x : Bool). cond (any k) true x) (range_has k (length vs) from to l)

    rise : low ≤ high
    rise = counts_rise Release s.version vs low high before through

    by_place : (k : ℕ) → k < length vs → value (any k) (other k) ≡ meets_clause s (get_or vs k (plain []))
    by_place k l = elim (cases_lt k low) [
      | inl f ↦
          ap (λ (x : Bool). value x (other k)) (any_below (is_met_at s vs) low n k f)
          ∙ others_before (admits_after s.op) k low high (length vs) from to ef et rise f
          ∙ sym (met_before s (get_or vs k (plain [])) strict (before.below k (plain []) f))
      | inr f ↦ elim (cases_lt k high) [
        | inl g ↦
            ap (value (any k)) (others_between (admits_after s.op) k low high (length vs) from to ef et f g) ∙ cond_whole (any k)
            ∙ any_at (is_met_at s vs) low n k f (omega (arith, f, g, en, rise)) ∙ is_met_here s vs k (plain []) l
        | inr g ↦
            ap (λ (x : Bool). value x (other k)) (any_past (is_met_at s vs) low n k (omega (arith, f, g, en, rise)))
            ∙ others_after (admits_after s.op) k low high (length vs) from to ef et rise g l
            ∙ sym (met_after s (get_or vs k (plain [])) strict (through.from k (plain []) g l))
      ]
    ]

-- ---- lists of clauses

-- no clause leaves all
pub no_clauses : (vs : List Fields) → replicate (length vs) true ≡ map (meets_list []) vs
no_clauses [] = refl
no_clauses (v ∷ vs) = ap (λ (l : List Bool). true ∷ l) (no_clauses vs)

both_mapped : (f g h : Fields → Bool) (vs : List Fields) → ((c : Fields) → cond (f c) (g c) false ≡ h c) → both (map f vs) (map g vs) ≡ map h vs
both_mapped f g h [] e = refl
both_mapped f g h (v ∷ vs) e = ap (λ (x : Bool). x ∷ both (map f vs) (map g vs)) (e v) ∙ ap (λ (z : List Bool). h v ∷ z) (both_mapped f g h vs e)

cond_and : (x y : Bool) → cond x y false ≡ (x && (y && true))
cond_and true true = refl
cond_and true false = refl
cond_and false y = refl

cond_both : (x y : Bool) → cond x y false ≡ (x && y)
cond_both true y = refl
cond_both false y = refl

-- those that are at least a version and equal it up to its last number
pub compatible_is : (v : Fields) (vs : List Fields) → both (map (is_from v) vs) (map (equals_by (Prefix (length v.release - 1)) v) vs) ≡ map (is_compatible_with v) vs
compatible_is v vs = both_mapped (is_from v) (equals_by (Prefix (length v.release - 1)) v) (is_compatible_with v) vs (λ c. cond_both (is_from v c) (equals_by (Prefix (length v.release - 1)) v c))

-- one clause more
pub clause_more : (ss : List ClauseFields) (i : ℕ) (s : ClauseFields) (vs : List Fields) (done one now : List Bool) → i < length ss → s ≡ get_or ss i s → done ≡ map (meets_list (take i ss)) vs → one ≡ map (meets_clause s) vs → now ≡ both done one
    → now ≡ map (meets_list (take (i + 1) ss)) vs
clause_more ss i s vs done one now l at d o e =
    e ∙ ap (λ (z : List Bool). both z one) d ∙ ap (both (map (meets_list (take i ss)) vs)) o
    ∙ both_mapped (meets_list (take i ss)) (meets_clause s) (meets_list (take (i + 1) ss)) vs (λ c.
    cond_and (meets_list (take i ss) c) (meets_clause s c) ∙ sym (list_all-append (λ (q : ClauseFields). meets_clause q c) (take i ss) (s ∷ []))
    ∙ ap (λ (q : ClauseFields). meets_list (take i ss ++ q ∷ []) c) at ∙ ap (λ (z : List ClauseFields). meets_list z c) (sym (take_more ss i s l)))

-- a set that is made of two sets
pub combined : (f : List Bool → List Bool → List Bool) (p s t S T : List Bool) → p ≡ f s t → s ≡ S → t ≡ T → p ≡ f S T
combined f p s t S T e h i = e ∙ ap (λ (z : List Bool). f z t) h ∙ ap (f S) i
