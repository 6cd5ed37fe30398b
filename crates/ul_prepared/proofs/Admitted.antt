-- Which versions a clause admits, by parts of versions.
use Rattle.std.specs.Cmp.{unsigned_tied}
use Rattle.std.specs.Ordering.{nat_cmp, ordering_then, is_lt, is_gt, is_eq}
use Rattle.std.specs.declared.cmp.Ordering.{Ordering}
use Rattle.std.specs.declared.cmp.Ordering.TheVariants.{Less, Equal, Greater}
use Rattle.std.proofs.Common.{◌≡◌, ◌≤◌, ◌-◌, ◌==◌, ℕ, List, [], ◌∷◌, length, take, not, ◌&&◌, ◌||◌, Bool, true, false, if◌then◌else◌, refl, sym, ap, subst, ◌∙◌, inl, inr, arith, eqb}
use Rattle.std.proofs.lemmas.Cmp.{nat_cmp_total, tied_itself}
use Rattle.std.proofs.lemmas.Bool.{both_ways, cases_Bool, eqb-true}
use Rattle.std.proofs.lemmas.List.{length-take-le, take_all}
use Rattle.ul_version.specs.Fields.{Fields, is_pre_of, is_post_of, without_local}
use Rattle.ul_version.specs.Order.{has_release_front, release_cmp, suffix_cmp, version_cmp}
use Rattle.ul_version.specs.declared.fields.Segment.{Segment}
use Rattle.ul_specifier.specs.Clauses.{ClauseFields, IsClause, has_local, is_filled, may_have_local}
use Rattle.ul_specifier.specs.Meaning.{is_at_least, is_less, is_more, is_of_release, matches, meets_clause, meets_op}
use Rattle.ul_specifier.specs.declared.clause.Op.{Op}
use Rattle.ul_specifier.specs.declared.clause.Op.TheVariants as op
use Rattle.ul_prepared.specs.Clauses.{admits_after, equality_part, equals_by, is_compatible_with, is_from, is_strict, is_up_to}
use Rattle.ul_prepared.specs.Parts.{side}
use Rattle.ul_prepared.specs.declared.parts.Part.{Part}
use Rattle.ul_prepared.specs.declared.parts.Part.TheVariants.{Whole, Public, Release, Prefix}
use Rattle.ul_prepared.proofs.Prefixes.{cut_ties, eq_then}
use Rattle.ul_prepared.proofs.Sides.{bare_cmp, version_is}

-- ---- `==` and `!=`

with_segments : Fields → List Segment → Fields
with_segments f l = record f { local = l }

bare_from : (f : Fields) (l : List Segment) → is_filled l ≡ false → with_segments f [] ≡ with_segments f l
bare_from f [] h = refl
bare_from f (x ∷ l) h = cc

-- a version without a local part is its public part
bare : (f : Fields) → has_local f ≡ false → without_local f ≡ f
unfolding with_segments
bare f h = bare_from f f.local h

-- what is equal by so many numbers begins with them
begins_is : (n : ℕ) (v c : Fields) → n ≤ length v.release → equals_by (Prefix n) v c ≡ (c.epoch == v.epoch && has_release_front (take n v.release) c.release)
begins_is n v c l =
    let cut : is_eq (release_cmp (take n c.release) (take n v.release)) ≡ has_release_front (take n v.release) c.release =
    subst (λ (m : ℕ). is_eq (release_cmp (take m c.release) (take n v.release)) ≡ has_release_front (take n v.release) c.release)
    (length-take-le n v.release l) (cut_ties (take n v.release) c.release) in
    ap is_eq (bare_cmp c.epoch v.epoch (take n c.release) (take n v.release))
    ∙ eq_then (nat_cmp c.epoch v.epoch) (release_cmp (take n c.release) (take n v.release))
    ∙ ap (λ (b : Bool). b && is_eq (release_cmp (take n c.release) (take n v.release))) (unsigned_tied c.epoch v.epoch)
    ∙ ap (λ (b : Bool). c.epoch == v.epoch && b) cut

equals_is : (v c : Fields) (l : Bool) → has_local v ≡ l
    → equals_by (if l then Whole else Public) v c ≡ (if l then is_eq (version_cmp c v) else is_eq (version_cmp (without_local c) v))
equals_is v c true h = refl
equals_is v c false h = ap (λ (w : Fields). is_eq (version_cmp (without_local c) w)) (bare v h)

-- what `==` asks for, with and without `.*`
matches_is : (v c : Fields) (p : Bool) → equals_by (if p then Prefix (length v.release) else if has_local v then Whole else Public) v c ≡ matches v p c
matches_is v c true =
    begins_is (length v.release) v c (omega arith)
    ∙ ap (λ (r : List ℕ). c.epoch == v.epoch && has_release_front r c.release) (take_all (length v.release) v.release (omega arith))
matches_is v c false = equals_is v c (has_local v) refl

-- a clause of an operator admits what the operator asks for
of_op : (s : ClauseFields) (o : Op) (p : Fields → Bool) → s.op ≡ o → ((c : Fields) → p c ≡ meets_op o s.version s.prefix c) → p ≡ meets_clause s
unfolding meets_clause
of_op s o p e h = λ i c. (h c ∙ ap (λ (q : Op). meets_op q s.version s.prefix c) (sym e)) i

-- `==V`, with and without `.*`
pub equal_meets : (s : ClauseFields) (part : Part) (v : Fields) → part ≡ equality_part s → v ≡ s.version → s.op ≡ op.Equal → equals_by part v ≡ meets_clause s
equal_meets s part v h f e =
    ap (equals_by part) f ∙ ap (λ (q : Part). equals_by q s.version) h
    ∙ of_op s op.Equal (equals_by (equality_part s) s.version) e (λ c. matches_is s.version c s.prefix)

-- `!=V`, with and without `.*`
pub unequal_meets : (s : ClauseFields) (part : Part) (v : Fields) → part ≡ equality_part s → v ≡ s.version → s.op ≡ op.Unequal → (λ c. not (equals_by part v c)) ≡ meets_clause s
unequal_meets s part v h f e =
    (λ i c. not (equals_by (h i) (f i) c))
    ∙ of_op s op.Unequal (λ c. not (equals_by (equality_part s) s.version c)) e (λ c. ap not (matches_is s.version c s.prefix))

-- the exclusion of V
pub distinct_meets : (s : ClauseFields) (v : Fields) → v ≡ s.version → s.op ≡ op.Distinct → (λ c. not (equals_by Whole v c)) ≡ meets_clause s
distinct_meets s v f e =
    (λ i c. not (equals_by Whole (f i) c)) ∙ of_op s op.Distinct (λ c. not (equals_by Whole s.version c)) e (λ c. refl)

-- ---- `>=`, `<=` and `~=`

-- only `==`, `!=` and exclusions have local parts
no_local : (s : ClauseFields) → IsClause s → may_have_local s.op ≡ false → has_local s.version ≡ false
no_local s is e = elim (cases_Bool (has_local s.version)) [
  | inl h ↦ absurd (both_ways (may_have_local s.op) e (is.local h))
  | inr h ↦ h
]

from_is : (v c : Fields) → has_local v ≡ false → is_from v c ≡ is_at_least v c
from_is v c h = ap (λ (w : Fields). not (is_lt (version_cmp (without_local c) w))) (bare v h)

-- `>=V`
pub from_meets : (s : ClauseFields) (v : Fields) → IsClause s → v ≡ s.version → s.op ≡ op.AtLeast → is_from v ≡ meets_clause s
from_meets s v is f e = ap is_from f ∙ of_op s op.AtLeast (is_from s.version) e (λ c. from_is s.version c (no_local s is (ap may_have_local e)))

-- `<=V`
pub up_to_meets : (s : ClauseFields) (v : Fields) → IsClause s → v ≡ s.version → s.op ≡ op.AtMost → is_up_to v ≡ meets_clause s
up_to_meets s v is f e = ap is_up_to f ∙ of_op s op.AtMost (is_up_to s.version) e (λ c.
    ap (λ (w : Fields). not (is_gt (version_cmp (without_local c) w))) (bare s.version (no_local s is (ap may_have_local e))))

-- `~=V`
pub compatible_meets : (s : ClauseFields) (v : Fields) → IsClause s → v ≡ s.version → s.op ≡ op.Compatible → is_compatible_with v ≡ meets_clause s
compatible_meets s v is f e = ap is_compatible_with f ∙ of_op s op.Compatible (is_compatible_with s.version) e (λ c.
    ap (λ (b : Bool). b && equals_by (Prefix (length s.version.release - 1)) s.version c) (from_is s.version c (no_local s is (ap may_have_local e)))
    ∙ ap (λ (b : Bool). is_at_least s.version c && b) (begins_is (length s.version.release - 1) s.version c (omega arith)))

-- ---- `>` and `<`

comes_before : (v c : Fields) → side Release v c ≡ Less → version_cmp c v ≡ Less
comes_before v c h = version_is v c ∙ ap (λ (o : Ordering). ordering_then o (suffix_cmp c v)) h

comes_after : (v c : Fields) → side Release v c ≡ Greater → version_cmp c v ≡ Greater
comes_after v c h = version_is v c ∙ ap (λ (o : Ordering). ordering_then o (suffix_cmp c v)) h

not_release : (v c : Fields) → is_eq (side Release v c) ≡ false → is_of_release v c ≡ false
not_release v c h = by_epoch (eqb c.epoch v.epoch) refl
  where
    by_release : (r : Ordering) → is_eq (ordering_then Equal r) ≡ false → is_eq r ≡ false
    by_release r e = e

    by_epoch : (b : Bool) → eqb c.epoch v.epoch ≡ b → (b && is_eq (release_cmp c.release v.release)) ≡ false
    by_epoch false e = refl
    by_epoch true e =
        let same : c.epoch ≡ v.epoch = eqb-true c.epoch v.epoch e in
        let tied : nat_cmp c.epoch v.epoch ≡ Equal = ap (λ (n : ℕ). nat_cmp n v.epoch) same ∙ tied_itself nat_cmp_total v.epoch in
        by_release (release_cmp c.release v.release)
        (ap (λ (o : Ordering). is_eq (ordering_then o (release_cmp c.release v.release))) (sym tied) ∙ ap is_eq (sym (bare_cmp c.epoch v.epoch c.release v.release)) ∙ h)

not_before : (v c : Fields) → side Release v c ≡ Less → is_of_release v c ≡ false
not_before v c h = not_release v c (ap is_eq h)

not_after : (v c : Fields) → side Release v c ≡ Greater → is_of_release v c ≡ false
not_after v c h = not_release v c (ap is_eq h)

no_exception : (a b : Bool) → (a || not (b && false)) ≡ true
no_exception true b = refl
no_exception false true = refl
no_exception false false = refl

no_exceptions : (a b d : Bool) → ((a || not (b && false)) && not (d && false)) ≡ true
no_exceptions true b true = refl
no_exceptions true b false = refl
no_exceptions false true true = refl
no_exceptions false true false = refl
no_exceptions false false true = refl
no_exceptions false false false = refl

less_before : (v c : Fields) → version_cmp c v ≡ Less → is_of_release v c ≡ false → is_less v c ≡ true
less_before v c e r = ap (λ (o : Ordering). is_lt o && (is_pre_of v || not (is_pre_of c && is_of_release v c))) e
    ∙ ap (λ (b : Bool). is_pre_of v || not (is_pre_of c && b)) r ∙ no_exception (is_pre_of v) (is_pre_of c)

more_after : (v c : Fields) → version_cmp c v ≡ Greater → is_of_release v c ≡ false → is_more v c ≡ true
more_after v c e r = ap (λ (o : Ordering). is_gt o && ((is_post_of v || not (is_post_of c && is_of_release v c)) && not (has_local c && is_of_release v c))) e
    ∙ ap (λ (b : Bool). (is_post_of v || not (is_post_of c && b)) && not (has_local c && b)) r ∙ no_exceptions (is_post_of v) (is_post_of c) (has_local c)

less_after : (v c : Fields) → version_cmp c v ≡ Greater → is_less v c ≡ false
less_after v c e = ap (λ (o : Ordering). is_lt o && (is_pre_of v || not (is_pre_of c && is_of_release v c))) e

more_before : (v c : Fields) → version_cmp c v ≡ Less → is_more v c ≡ false
more_before v c e = ap (λ (o : Ordering). is_gt o && ((is_post_of v || not (is_post_of c && is_of_release v c)) && not (has_local c && is_of_release v c))) e

strict_before : (o : Op) (v c : Fields) (p : Bool) → is_strict o ≡ true → side Release v c ≡ Less → meets_op o v p c ≡ not (admits_after o)
strict_before op.Equal v c p n h = cc
strict_before op.Unequal v c p n h = cc
strict_before op.AtLeast v c p n h = cc
strict_before op.AtMost v c p n h = cc
strict_before op.More v c p n h = more_before v c (comes_before v c h)
strict_before op.Less v c p n h = less_before v c (comes_before v c h) (not_before v c h)
strict_before op.Compatible v c p n h = cc
strict_before op.Distinct v c p n h = cc

strict_after : (o : Op) (v c : Fields) (p : Bool) → is_strict o ≡ true → side Release v c ≡ Greater → meets_op o v p c ≡ admits_after o
strict_after op.Equal v c p n h = cc
strict_after op.Unequal v c p n h = cc
strict_after op.AtLeast v c p n h = cc
strict_after op.AtMost v c p n h = cc
strict_after op.More v c p n h = more_after v c (comes_after v c h) (not_after v c h)
strict_after op.Less v c p n h = less_after v c (comes_after v c h)
strict_after op.Compatible v c p n h = cc
strict_after op.Distinct v c p n h = cc

-- a strict clause treats all versions before its version's release alike
pub met_before : (s : ClauseFields) (c : Fields) → is_strict s.op ≡ true → side Release s.version c ≡ Less → meets_clause s c ≡ not (admits_after s.op)
unfolding meets_clause
met_before s c e h = strict_before s.op s.version c s.prefix e h

-- and all after it
pub met_after : (s : ClauseFields) (c : Fields) → is_strict s.op ≡ true → side Release s.version c ≡ Greater → meets_clause s c ≡ admits_after s.op
unfolding meets_clause
met_after s c e h = strict_after s.op s.version c s.prefix e h
