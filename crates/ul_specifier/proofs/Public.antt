-- How the public part of a candidate decides whether it meets a clause.
use Rattle.std.proofs.Common.{◌≡◌, ℕ, List, [], ◌∷◌, refl, sym, ap, ◌∙◌, Bool, true, false, true≢false, inl, inr}
use Rattle.std.specs.Prelude.{◌&&◌, ◌||◌, not, is_some}
use Rattle.std.proofs.lemmas.Bool.{cases_Bool}
use Rattle.std.specs.Ordering.{is_lt, is_gt, is_eq, nat_cmp, ordering_then}
use Rattle.std.specs.Cmp.{unsigned_tied}
use Rattle.std.specs.declared.cmp.Ordering.{Ordering}
use Rattle.std.specs.declared.cmp.Ordering.TheVariants as Answer
use Rattle.ul_version.specs.Fields.{Fields, without_local, is_pre_of, is_post_of, plain}
use Rattle.ul_version.specs.Order.{version_cmp, release_cmp, local_cmp, pre_place, post_place, dev_place, place_cmp}
use Rattle.ul_version.specs.declared.fields.Segment.{Segment}
use Rattle.ul_version.proofs.ForCallers.{version_ties}
use Rattle.ul_specifier.specs.Clauses.{ClauseFields, IsClause, has_local, is_filled, may_have_local, is_bare}
use Rattle.ul_specifier.specs.Meaning.{matches, is_more, is_less, is_of_release, meets_op, meets_clause}
use Rattle.ul_specifier.specs.Public.{own_op, public_matches, public_op}
use Rattle.ul_specifier.specs.declared.clause.Op.{Op}
use Rattle.ul_specifier.specs.declared.clause.Op.TheVariants.{Equal, Unequal, AtLeast, AtMost, More, Less, Compatible, Distinct}

with_segments : Fields → List Segment → Fields
with_segments f l = record f { local = l }

bare_from : (f : Fields) (l : List Segment) → is_filled l ≡ false → with_segments f [] ≡ with_segments f l
bare_from f [] h = refl
bare_from f (x ∷ l) h = absurd (true≢false h)

-- a version without a local part is its public part
pub public-bare : (f : Fields) → has_local f ≡ false → without_local f ≡ f
unfolding with_segments
public-bare f h = bare_from f f.local h

-- ---- orders

lt_then : (a b c : Ordering) → is_lt b ≡ is_lt c → is_lt (ordering_then a b) ≡ is_lt (ordering_then a c)
lt_then Answer.Less b c h = refl
lt_then Answer.Equal b c h = h
lt_then Answer.Greater b c h = refl

local-last : (l : List Segment) → is_lt (local_cmp l []) ≡ is_lt (local_cmp [] [])
local-last [] = refl
local-last (x ∷ l) = refl

-- beside a version without a local part, a local part makes no version less
lt-public : (f V : Fields) → is_lt (version_cmp f (without_local V)) ≡ is_lt (version_cmp (without_local f) (without_local V))
unfolding version_cmp
lt-public f V =
    lt_then (nat_cmp f.epoch V.epoch) _ _ (lt_then (release_cmp f.release V.release) _ _ (lt_then (place_cmp (pre_place f) (pre_place V)) _ _
    (lt_then (place_cmp (post_place f.post) (post_place V.post)) _ _ (lt_then (place_cmp (dev_place f.dev) (dev_place V.dev)) _ _ (local-last f.local)))))

decided : (e r b c : Ordering) → (is_eq e && is_eq r) ≡ false → ordering_then e (ordering_then r b) ≡ ordering_then e (ordering_then r c)
decided Answer.Less r b c h = refl
decided Answer.Greater r b c h = refl
decided Answer.Equal Answer.Less b c h = refl
decided Answer.Equal Answer.Greater b c h = refl
decided Answer.Equal Answer.Equal b c h = absurd (true≢false h)

-- versions of different releases are ordered by them
other-release : (f V : Fields) → is_of_release V f ≡ false → version_cmp f V ≡ version_cmp (without_local f) V
unfolding version_cmp
other-release f V h =
    decided (nat_cmp f.epoch V.epoch) (release_cmp f.release V.release) _ _
    (ap (λ (b : Bool). b && is_eq (release_cmp f.release V.release)) (unsigned_tied f.epoch V.epoch) ∙ h)

-- ---- `<` and `>`

and_false : (b : Bool) → (b && false) ≡ false
and_false true = refl
and_false false = refl

less-bits : (g p v rel : Bool) → (g && not ((p && not v) && rel)) ≡ (g && (v || not (p && rel)))
less-bits g true true rel = refl
less-bits g true false rel = refl
less-bits g false true rel = refl
less-bits g false false rel = refl

pub less-public : (f V : Fields) → has_local V ≡ false
    → (is_lt (version_cmp (without_local f) V) && not ((is_pre_of f && not (is_pre_of V)) && is_of_release V f)) ≡ is_less V f
less-public f V h =
    less-bits (is_lt (version_cmp (without_local f) V)) (is_pre_of f) (is_pre_of V) (is_of_release V f)
    ∙ ap (λ (b : Bool). b && (is_pre_of V || not (is_pre_of f && is_of_release V f))) (sym (rw (public-bare V h) at (lt-public f V)))

more-bits : (g l p v rel : Bool) → (g && not ((l || (p && not v)) && rel)) ≡ (g && ((v || not (p && rel)) && not (l && rel)))
more-bits g l p v rel = ap (λ (b : Bool). g && b) (inner l p v rel)
  where
    inner : (a b c d : Bool) → not ((a || (b && not c)) && d) ≡ ((c || not (b && d)) && not (a && d))
    inner true true true true = refl
    inner true true true false = refl
    inner true true false true = refl
    inner true true false false = refl
    inner true false true true = refl
    inner true false true false = refl
    inner true false false true = refl
    inner true false false false = refl
    inner false true true d = refl
    inner false true false true = refl
    inner false true false false = refl
    inner false false true d = refl
    inner false false false d = refl

more-swap : (g k l p rel : Bool) → (l ≡ false → g ≡ k) → (rel ≡ false → g ≡ k) → (g && not ((l || p) && rel)) ≡ (k && not ((l || p) && rel))
more-swap g k false p rel h j = ap (λ (b : Bool). b && not (p && rel)) (h refl)
more-swap g k true p false h j = ap (λ (b : Bool). b && true) (j refl)
more-swap g k true p true h j = and_false g ∙ sym (and_false k)

pub more-public : (f V : Fields)
    → (is_gt (version_cmp (without_local f) V) && not ((has_local f || (is_post_of f && not (is_post_of V))) && is_of_release V f)) ≡ is_more V f
more-public f V =
    more-swap (is_gt (version_cmp (without_local f) V)) (is_gt (version_cmp f V)) (has_local f) (is_post_of f && not (is_post_of V)) (is_of_release V f)
    (λ none. ap (λ (g : Fields). is_gt (version_cmp g V)) (public-bare f none))
    (λ other. ap (λ (o : Ordering). is_gt o) (sym (other-release f V other)))
    ∙ more-bits (is_gt (version_cmp f V)) (has_local f) (is_post_of f) (is_post_of V) (is_of_release V f)

pub matches-public : (f V : Fields) (prefix : Bool) → has_local V ≡ false → public_matches prefix V (without_local f) ≡ matches V prefix f
matches-public f V true h = refl
matches-public f V false h = rw h refl

-- ---- exclusions

other_local : (f V : Fields) (o : Ordering) → has_local V ≡ false → has_local f ≡ true → version_cmp f V ≡ o → is_eq o ≡ false
other_local f V Answer.Less h some e = refl
other_local f V Answer.Greater h some e = refl
other_local f V Answer.Equal h some e =
    absurd (true≢false (sym some ∙ ap (λ (l : List Segment). is_filled l) (version_ties f V e).local ∙ h))

-- a version with a local part is none that has none
pub distinct-public : (f V : Fields) → has_local V ≡ false
    → (has_local f || not (is_eq (version_cmp (without_local f) V))) ≡ not (is_eq (version_cmp f V))
distinct-public f V h = elim (cases_Bool (has_local f)) [
  | inl some ↦ rw (some, other_local f V (version_cmp f V) h some refl) refl
  | inr none ↦ rw (none, public-bare f none) refl
]

public_bare-op : (op : Op) (prefix : Bool) (V f : Fields) → has_local V ≡ false → public_op op prefix V (without_local f) (has_local f) ≡ meets_op op V prefix f
public_bare-op Equal prefix V f h = matches-public f V prefix h
public_bare-op Unequal prefix V f h = ap (λ (b : Bool). not b) (matches-public f V prefix h)
public_bare-op AtLeast prefix V f h = refl
public_bare-op AtMost prefix V f h = refl
public_bare-op More prefix V f h = more-public f V
public_bare-op Less prefix V f h = less-public f V h
public_bare-op Compatible prefix V f h = refl
public_bare-op Distinct prefix V f h = distinct-public f V h

-- the public part decides
pub public-meets : (s : ClauseFields) (f : Fields) (b : Bool) → has_local s.version ≡ false → b ≡ has_local f
    → public_op s.op s.prefix (without_local s.version) (without_local f) b ≡ meets_clause s f
unfolding meets_clause
public-meets s f b h e = rw (e, public-bare s.version h) (public_bare-op s.op s.prefix s.version f h)

-- ---- clauses whose version has a local part

bare_bits : (p q d l : Bool) → l ≡ true → not (p || (q || (d || l))) ≡ true → ⊥
bare_bits true q d l e h = true≢false (sym h)
bare_bits false true d l e h = true≢false (sym h)
bare_bits false false true l e h = true≢false (sym h)
bare_bits false false false true e h = true≢false (sym h)
bare_bits false false false false e h = true≢false (sym e)

pub bare_no_local : (f : Fields) → is_bare f ≡ true → has_local f ≡ true → ⊥
bare_no_local f b l = bare_bits (is_some f.pre) (is_some f.post) (is_some f.dev) (has_local f) l b

unstarred : (s : ClauseFields) → IsClause s → has_local s.version ≡ true → s.prefix ≡ false
unstarred s is local = elim (cases_Bool s.prefix) [
  | inl starred ↦ absurd (bare_no_local s.version (is.prefix starred).1 local)
  | inr plain_one ↦ plain_one
]

own_equal : (op : Op) (V : Fields) (prefix : Bool) (f : Fields) → may_have_local op ≡ true → prefix ≡ false → has_local V ≡ true
    → own_op op (is_eq (version_cmp f V)) ≡ meets_op op V prefix f
own_equal Equal V prefix f e p l = rw (p, l) refl
own_equal Unequal V prefix f e p l = rw (p, l) refl
own_equal AtLeast V prefix f e p l = absurd (true≢false (sym e))
own_equal AtMost V prefix f e p l = absurd (true≢false (sym e))
own_equal More V prefix f e p l = absurd (true≢false (sym e))
own_equal Less V prefix f e p l = absurd (true≢false (sym e))
own_equal Compatible V prefix f e p l = absurd (true≢false (sym e))
own_equal Distinct V prefix f e p l = refl

-- such a clause asks whether a version is the clause's own
pub own-meets : (s : ClauseFields) (f : Fields) (b : Bool) → IsClause s → has_local s.version ≡ true → b ≡ is_eq (version_cmp f s.version)
    → own_op s.op b ≡ meets_clause s f
unfolding meets_clause
own-meets s f b is local e = rw e (own_equal s.op s.version s.prefix f (is.local local) (unstarred s is local) local)

own_plain : (release : List ℕ) (V : Fields) (o : Ordering) → has_local V ≡ true → version_cmp (plain release) V ≡ o → is_eq o ≡ false
own_plain release V Answer.Less h e = refl
own_plain release V Answer.Greater h e = refl
own_plain release V Answer.Equal h e =
    let same : [] ≡ V.local = (version_ties (plain release) V e).local in
    absurd (true≢false (sym (rw (← same) at h)))

-- and no version with a release alone is
pub plain-own : (release : List ℕ) (V : Fields) → has_local V ≡ true → false ≡ is_eq (version_cmp (plain release) V)
plain-own release V h = sym (own_plain release V _ h refl)

-- ---- `==V` and a version with a release alone

pub equal_plain-public : (V : Fields) (release : List ℕ) → has_local V ≡ false
    → is_eq (version_cmp (plain release) (without_local V)) ≡ meets_clause (record { op = Equal; version = V; prefix = false }) (plain release)
equal_plain-public V release h = public-meets (record { op = Equal; version = V; prefix = false }) (plain release) false h refl

pub equal_plain-own : (V : Fields) (release : List ℕ) → has_local V ≡ true
    → false ≡ meets_clause (record { op = Equal; version = V; prefix = false }) (plain release)
unfolding meets_clause
equal_plain-own V release h = rw h (plain-own release V h)
