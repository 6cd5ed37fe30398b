-- The proofs of the laws of `specs/Laws.antt`.
use Rattle.std.proofs.Common.{◌≡◌, ℕ, zero, suc, ◌<◌, ◌≤◌, List, [], ◌∷◌, length, get_or, refl, sym, ap, subst, ◌∙◌, arith, Bool, true, false, true≢false, inl, inr, Option, Some, None, max}
use Rattle.std.specs.Prelude.{◌&&◌, ◌||◌, ◌==◌, not, IfSome, is_some}
use Rattle.std.specs.List.{cons_option}
use Rattle.std.specs.Ordering.{is_lt, is_gt, is_eq, nat_cmp, ordering_then, MatchOrdering}
use Rattle.std.specs.Cmp.{unsigned_tied}
use Rattle.std.proofs.lemmas.Bool.{and_from, and_parts, cases_Bool, cases_lt, eqb-true, eqb-false}
use Rattle.std.proofs.lemmas.Cmp.{ranked}
use Rattle.std.proofs.lemmas.List.{get_or_past}
use Rattle.std.specs.declared.cmp.Ordering.{Ordering}
use Rattle.std.specs.declared.cmp.Ordering.TheVariants as Answer
use Rattle.ul_version.specs.Fields.{Fields, is_pre_of, is_post_of, plain, without_local}
use Rattle.ul_version.specs.Order.{has_release_front, numbers_cmp, padded_release, release_cmp, version_cmp}
use Rattle.ul_version.specs.declared.fields.Pre.{Pre}
use Rattle.ul_version.specs.declared.fields.Segment.{Segment}
use Rattle.ul_version.proofs.ForCallers.{front-differs, get_or-padded, length-padded}
use Rattle.ul_specifier.specs.Clauses.{ClauseFields, IsClause, has_local, is_bare, may_have_local}
use Rattle.ul_specifier.specs.Laws.{CompatibleIsTwoParts, DistinctIsOther, LessIsNegation, LowerIsSettled, LowerIsWeaker, MoreIsNegation, ReadsClauses, UnequalIsNegation}
use Rattle.ul_specifier.specs.Meaning.{begins_as, is_of_release, lower_clause, lower_list, lower_op, meets_clause, meets_list, meets_op}
use Rattle.ul_specifier.specs.declared.clause.Op.{Op}
use Rattle.ul_specifier.specs.declared.clause.Op.TheVariants.{Equal, Unequal, AtLeast, AtMost, More, Less, Compatible, Distinct}
use Rattle.ul_specifier.proofs.Public.{distinct-public, plain-own, public-bare}
use Rattle.ul_specifier.proofs.Spelled.{clause_with-spelled, specifiers-spelled}
use Rattle.ul_specifier.proofs.Texts.{clause_with-clause, specifiers-clauses}

pub unequal : UnequalIsNegation
unfolding meets_clause
unequal V c prefix = refl

-- a version equals another where its public part does, unless it has a local part that the other hasn't
pub distinct : DistinctIsOther
unfolding meets_clause
distinct V c prefix = elim (cases_Bool (has_local V)) [
  | inl some ↦ rw some (either-way (is_eq (version_cmp c V)) (has_local c))
  | inr none ↦ rw none (sym (distinct-public c V none) ∙ swap (has_local c) (is_eq (version_cmp (without_local c) V)))
]
  where
    either-way : (b l : Bool) → not b ≡ (not b || (l && false))
    either-way true true = refl
    either-way true false = refl
    either-way false l = refl

    swap : (l b : Bool) → (l || not b) ≡ (not b || (l && true))
    swap true true = refl
    swap true false = refl
    swap false true = refl
    swap false false = refl

pub compatible : CompatibleIsTwoParts
unfolding meets_clause
compatible V c = refl

less-bits : (b v p rel : Bool) → p ≡ false → (b && (v || not (p && rel))) ≡ not (not b)
less-bits true true p rel h = refl
less-bits true false p rel h = rw h refl
less-bits false v p rel h = refl

pub less : LessIsNegation
unfolding meets_clause
less V c h l =
    rw (public-bare c l) (less-bits (is_lt (version_cmp c V)) (is_pre_of V) (is_pre_of c) (is_of_release V c) h)

more-bits : (b v p l rel : Bool) → p ≡ false → l ≡ false → (b && ((v || not (p && rel)) && not (l && rel))) ≡ not (not b)
more-bits true true p l rel h k = rw k refl
more-bits true false p l rel h k = rw (h, k) refl
more-bits false v p l rel h k = refl

pub more : MoreIsNegation
unfolding meets_clause
more V c h l =
    rw (public-bare c l) (more-bits (is_gt (version_cmp c V)) (is_post_of V) (is_post_of c) (has_local c) (is_of_release V c) h l)

-- ---- lower bounds

eq-not_lt : (o : Ordering) → is_eq o ≡ true → not (is_lt o) ≡ true
eq-not_lt Answer.Less h = absurd (true≢false (sym h))
eq-not_lt Answer.Equal h = refl
eq-not_lt Answer.Greater h = refl

-- a list that is nowhere below another isn't less
nowhere-below : (xs ys : List ℕ) → length ys ≤ length xs → ((k : ℕ) → get_or ys k 0 ≤ get_or xs k 0) → is_lt (numbers_cmp xs ys) ≡ false
nowhere-below [] [] h g = refl
nowhere-below [] (y ∷ ys) h g = absurd (omega arith)
nowhere-below (x ∷ xs) [] h g = refl
nowhere-below (x ∷ xs) (y ∷ ys) h g =
    then-false (nat_cmp x y) _ (head (nat_cmp x y) (ranked x y _ refl) (g zero)) (nowhere-below xs ys (omega arith) (λ k. g (suc k)))
  where
    then-false : (a b : Ordering) → is_lt a ≡ false → is_lt b ≡ false → is_lt (ordering_then a b) ≡ false
    then-false Answer.Less b p q = p
    then-false Answer.Equal b p q = q
    then-false Answer.Greater b p q = p

    head : (r : Ordering) → MatchOrdering r (x < y) (x ≡ y) (y < x) → y ≤ x → is_lt r ≡ false
    head Answer.Less m le = absurd (omega arith)
    head Answer.Equal m le = refl
    head Answer.Greater m le = refl

front-at : (front release : List ℕ) (k : ℕ) → has_release_front front release ≡ true → k < length front → get_or release k 0 ≡ get_or front k 0
front-at front release k h lt = elim (cases_Bool (get_or release k 0 == get_or front k 0)) [
  | inl same ↦ eqb-true _ _ same
  | inr other ↦ absurd (true≢false (sym h ∙ sym (front-differs front release k lt (eqb-false _ _ other))))
]

-- a release that begins with a front is at least that front
front-release : (front release : List ℕ) → has_release_front front release ≡ true → is_lt (release_cmp release front) ≡ false
unfolding release_cmp
front-release front release h =
    let size = max (length release) (length front) in
    nowhere-below (padded_release size release) (padded_release size front) (omega (arith, length-padded size release, length-padded size front))
    (λ k. rw (get_or-padded size release k, get_or-padded size front k) (at_most k))
  where
    at_most : (k : ℕ) → get_or front k 0 ≤ get_or release k 0
    at_most k = elim (cases_lt k (length front)) [
      | inl inner ↦ rw (front-at front release k h inner) (omega arith)
      | inr past ↦ rw (get_or_past front k 0 past) (omega arith)
    ]

of_epoch : ℕ → List ℕ → Fields
of_epoch e release = record (plain release) { epoch = e }

bare_parts : (e : ℕ) (r : List ℕ) (p : Option Pre) (q d : Option ℕ) (l : List Segment)
    → is_bare (record { epoch = e; release = r; pre = p; post = q; dev = d; local = l }) ≡ true
    → of_epoch e r ≡ record { epoch = e; release = r; pre = p; post = q; dev = d; local = l }
unfolding of_epoch
bare_parts e r None None None [] h = refl
bare_parts e r (Some p) q d l h = absurd (true≢false (sym h))
bare_parts e r None (Some q) d l h = absurd (true≢false (sym h))
bare_parts e r None None (Some d) l h = absurd (true≢false (sym h))
bare_parts e r None None None (x ∷ l) h = absurd (true≢false (sym h))

equal_then : (e r : Ordering) → is_eq e ≡ true → is_lt r ≡ false → not (is_lt (ordering_then e (ordering_then r Answer.Equal))) ≡ true
equal_then Answer.Less r h k = absurd (true≢false (sym h))
equal_then Answer.Greater r h k = absurd (true≢false (sym h))
equal_then Answer.Equal Answer.Less h k = absurd (true≢false k)
equal_then Answer.Equal Answer.Equal h k = refl
equal_then Answer.Equal Answer.Greater h k = refl

front-of_epoch : (e : ℕ) (front release : List ℕ) → begins_as (of_epoch e front) (plain release) ≡ true
    → not (is_lt (version_cmp (plain release) (of_epoch e front))) ≡ true
unfolding version_cmp of_epoch
front-of_epoch e front release h =
    let p = and_parts (0 == e) (has_release_front front release) h in
    equal_then (nat_cmp 0 e) (release_cmp release front) (unsigned_tied 0 e ∙ p.0) (front-release front release p.1)

-- a version with a release alone that begins as V is at least V
front-at_least : (V : Fields) (release : List ℕ) → is_bare V ≡ true → begins_as V (plain release) ≡ true
    → not (is_lt (version_cmp (plain release) V)) ≡ true
unfolding of_epoch
front-at_least V release bare h =
    subst (λ (f : Fields). not (is_lt (version_cmp (plain release) f)) ≡ true) (bare_parts V.epoch V.release V.pre V.post V.dev V.local bare)
    (front-of_epoch V.epoch V.release release h)

bare_bits : (p q d l : Bool) → not (p || (q || (d || l))) ≡ true → l ≡ false
bare_bits true q d l h = absurd (true≢false (sym h))
bare_bits false true d l h = absurd (true≢false (sym h))
bare_bits false false true l h = absurd (true≢false (sym h))
bare_bits false false false true h = absurd (true≢false (sym h))
bare_bits false false false false h = refl

bare-local : (V : Fields) → is_bare V ≡ true → has_local V ≡ false
bare-local V h = bare_bits (is_some V.pre) (is_some V.post) (is_some V.dev) (has_local V) h

equal_bound : (V : Fields) (prefix : Bool) (release : List ℕ) → (prefix ≡ true → is_bare V ≡ true) → meets_op Equal V prefix (plain release) ≡ true
    → not (is_lt (version_cmp (plain release) (without_local V))) ≡ true
equal_bound V true release bare h = rw (public-bare V (bare-local V (bare refl))) (front-at_least V release (bare refl) h)
equal_bound V false release bare h = elim (cases_Bool (has_local V)) [
  | inl some ↦ absurd (true≢false (sym (rw some at h) ∙ sym (plain-own release V some)))
  | inr none ↦ rw (public-bare V none) (eq-not_lt (version_cmp (plain release) V) (rw none at h))
]

no-local : (s : ClauseFields) → Compatible ≡ s.op → IsClause s → has_local s.version ≡ false
no-local s e is = elim (cases_Bool (has_local s.version)) [
  | inl some ↦ absurd (true≢false (sym (is.local some) ∙ ap (λ (op : Op). may_have_local op) (sym e)))
  | inr none ↦ none
]

lower-met : (op : Op) (s : ClauseFields) (release : List ℕ) → op ≡ s.op → IsClause s → meets_op op s.version s.prefix (plain release) ≡ true
    → IfSome (lower_op op s) (λ b. meets_clause b (plain release) ≡ true)
unfolding meets_clause
lower-met Equal s release e is h = equal_bound s.version s.prefix release (λ p. (is.prefix p).1) h
lower-met Unequal s release e is h = tt
lower-met AtLeast s release e is h = rw (← e) h
lower-met AtMost s release e is h = tt
lower-met More s release e is h = rw (← e) h
lower-met Less s release e is h = tt
lower-met Distinct s release e is h = tt
lower-met Compatible s release e is h =
    rw (public-bare s.version (no-local s e is)) (and_parts _ _ h).0

weaker_option : (o : Option ClauseFields) (bounds : List ClauseFields) (c : Fields) → IfSome o (λ b. meets_clause b c ≡ true) → meets_list bounds c ≡ true
    → meets_list (cons_option o bounds) c ≡ true
weaker_option None bounds c h k = k
weaker_option (Some b) bounds c h k = and_from (meets_clause b c) (meets_list bounds c) h k

clause-met : (s : ClauseFields) (release : List ℕ) → IsClause s → meets_clause s (plain release) ≡ true
    → IfSome (lower_clause s) (λ b. meets_clause b (plain release) ≡ true)
unfolding meets_clause
clause-met s release is h = lower-met s.op s release refl is h

pub weaker : LowerIsWeaker
weaker [] all release h = refl
weaker (s ∷ clauses) all release h =
    let p = and_parts (meets_clause s (plain release)) (meets_list clauses (plain release)) h in
    weaker_option (lower_clause s) (lower_list clauses) (plain release) (clause-met s release (all zero s (omega arith)) p.0)
    (weaker clauses (λ k d lt. all (suc k) d (omega arith)) release p.1)

settled_op : (op : Op) (s : ClauseFields) (bounds : List ClauseFields) → op ≡ s.op
    → lower_list (cons_option (lower_op op s) bounds) ≡ cons_option (lower_op op s) (lower_list bounds)
settled_op Equal s bounds e = refl
settled_op Unequal s bounds e = refl
settled_op AtLeast s bounds e = rw (← e) refl
settled_op AtMost s bounds e = refl
settled_op More s bounds e = rw (← e) refl
settled_op Less s bounds e = refl
settled_op Compatible s bounds e = refl
settled_op Distinct s bounds e = refl

pub settled : LowerIsSettled
settled [] = refl
settled (s ∷ clauses) =
    settled_op s.op s (lower_list clauses) refl ∙ ap (λ (l : List ClauseFields). cons_option (lower_clause s) l) (settled clauses)

pub reads : ReadsClauses
reads = record {
  one = λ op text c e. (clause_with-clause op text c e, clause_with-spelled op text c e);
  list = λ text cs e. (specifiers-clauses text cs e, specifiers-spelled text cs e);
}
