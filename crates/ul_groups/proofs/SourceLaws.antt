-- The laws of sources as constraints: of releases of different versions those meet them that come from where the sources
-- want them.
use Rattle.std.proofs.Common.{◌≡◌, ◌∙◌, ◌&&◌, ◌||◌, ℕ, List, [], ◌∷◌, Bool, true, false, cond, not, Option, Some, None, filter, get_or, map, ap, refl, sym, true≢false}
use Rattle.std.specs.Prelude.{All, is_some}
use Rattle.std.specs.List.{cons_option, list_all, list_any}
use Rattle.std.specs.Ordering.{is_eq}
use Rattle.std.specs.declared.cmp.Ordering.{Ordering}
use Rattle.std.specs.declared.cmp.Ordering.TheVariants.{Less, Equal, Greater}
use Rattle.std.proofs.lemmas.Cmp.{tied_back, tied_itself}
use Rattle.std.proofs.lemmas.List.Elements.{All-cons, All-head, All-nil, All-tail}
use Rattle.std.proofs.lemmas.List.Folds.{list_all-append}
use Rattle.ul_version.specs.Order.{version_cmp}
use Rattle.ul_version.proofs.ForCallers.{version_total}
use Rattle.ul_specifier.specs.Meaning.{meets_clause, meets_list}
use Rattle.ul_comparison.specs.Formulas.{Formula, formulas_of}
use Rattle.ul_comparison.specs.Truth.{all_hold, any_holds, marker_holds}
use Rattle.ul_comparison.specs.Worlds.{WorldFields}
use Rattle.ul_requirement.specs.Fields.{IsOtherVersion, ReleaseFields, RequirementFields, VersionsDiffer}
use Rattle.ul_requirement.specs.Truth.{may_hold}
use Rattle.ul_project.specs.Sources.{SourceFields}
use Rattle.ul_groups.specs.Negated.{each_negated}
use Rattle.ul_groups.specs.Sourced.{ClausesAreSources, SourcesAreConstraints, clauses_from, conditions_of, constraints_on, counts, excluded, has_rest, is_from, is_wanted, meets_each, rest_constraint, rest_constraints, source_constraint}
use Rattle.ul_groups.proofs.Negations.{each_is_not}

-- ---- clauses

-- a release meets the clause that excludes one of another version
apart : (r s : ReleaseFields) → IsOtherVersion r s → meets_clause (excluded s) r.version ≡ true
unfolding meets_clause
apart r s h = by (version_cmp r.version s.version) h
  where
    by : (o : Ordering) → (o ≡ Equal → ⊥) → not (is_eq o) ≡ true
    by Less h = refl
    by Equal h = absurd (h refl)
    by Greater h = refl

-- and not the one that excludes it
not_itself : (r : ReleaseFields) → meets_clause (excluded r) r.version ≡ false
unfolding meets_clause
not_itself r = ap (λ (o : Ordering). not (is_eq o)) (tied_itself version_total r.version)

module _ (test : ReleaseFields → Bool) where
  -- a release meets the clauses that exclude releases of other versions
  others_met : (r : ReleaseFields) (rs : List ReleaseFields) → All (IsOtherVersion r) rs
      → meets_list (map excluded (filter (λ s. not (test s)) rs)) r.version ≡ true
  others_met r [] h = refl
  others_met r (s ∷ rs) h = by (test s) (others_met r rs (All-tail (IsOtherVersion r) s rs h))
    where
      by : (b : Bool) → meets_list (map excluded (filter (λ z. not (test z)) rs)) r.version ≡ true
          → meets_list (map excluded (cond (not b) (s ∷ filter (λ z. not (test z)) rs) (filter (λ z. not (test z)) rs))) r.version ≡ true
      by true rest = rest
      by false rest =
          ap (λ (b : Bool). b && meets_list (map excluded (filter (λ z. not (test z)) rs)) r.version) (apart r s (All-head (IsOtherVersion r) s rs h)) ∙ rest

  -- of releases of different versions those are met that pass
  each_told : (rs : List ReleaseFields) → VersionsDiffer rs
      → All (λ r. meets_list (map excluded (filter (λ s. not (test s)) rs)) r.version ≡ test r) rs
  each_told [] d = All-nil (λ r. meets_list [] r.version ≡ test r)
  each_told (s ∷ rs) d =
      All-cons (λ r. meets_list (map excluded (filter (λ z. not (test z)) (s ∷ rs))) r.version ≡ test r) s rs (here (test s) refl)
      (λ k z lt. later _ (d.0 k z lt) (test s) (each_told rs d.1 k z lt))
    where
      here : (b : Bool) → test s ≡ b
          → meets_list (map excluded (cond (not b) (s ∷ filter (λ z. not (test z)) rs) (filter (λ z. not (test z)) rs))) s.version ≡ b
      here true e = others_met s rs d.0
      here false e = ap (λ (b : Bool). b && meets_list (map excluded (filter (λ z. not (test z)) rs)) s.version) (not_itself s)

      later : (r : ReleaseFields) → IsOtherVersion s r → (b : Bool) → meets_list (map excluded (filter (λ z. not (test z)) rs)) r.version ≡ test r
          → meets_list (map excluded (cond (not b) (s ∷ filter (λ z. not (test z)) rs) (filter (λ z. not (test z)) rs))) r.version ≡ test r
      later r h true e = e
      later r h false e =
          ap (λ (b : Bool). b && meets_list (map excluded (filter (λ z. not (test z)) rs)) r.version)
          (apart r s (λ t. h (tied_back version_total r.version s.version t)))
          ∙ e

pub clauses_are_sources : ClausesAreSources
clauses_are_sources source rs d = each_told (is_from source) rs d

-- ---- conditions

or_true : (b : Bool) → (b || true) ≡ true
or_true true = refl
or_true false = refl

-- where there is no rest a source counts in each world
somewhere : (w : WorldFields) (x : List ℕ) (ss : List SourceFields) → has_rest ss ≡ false → list_any (counts w x) ss ≡ true
somewhere w x [] e = absurd (true≢false e)
somewhere w x (s ∷ ss) e = by s.condition e (somewhere w x ss)
  where
    by : (o : Option Formula) → (is_some o && has_rest ss) ≡ false → (has_rest ss ≡ false → list_any (counts w x) ss ≡ true)
        → (may_hold o w x || list_any (counts w x) ss) ≡ true
    by None e rest = refl
    by (Some c) e rest = ap (λ (b : Bool). marker_holds c w x || b) (rest e) ∙ or_true (marker_holds c w x)

-- where each source has a condition, one of them counts where one of the conditions is true
conditional : (w : WorldFields) (x : List ℕ) (ss : List SourceFields) → has_rest ss ≡ true
    → any_holds (formulas_of (conditions_of ss)) w x ≡ list_any (counts w x) ss
conditional w x [] e = refl
conditional w x (s ∷ ss) e = by s.condition e (conditional w x ss)
  where
    by : (o : Option Formula) → (is_some o && has_rest ss) ≡ true
        → (has_rest ss ≡ true → any_holds (formulas_of (conditions_of ss)) w x ≡ list_any (counts w x) ss)
        → any_holds (formulas_of (cons_option o (conditions_of ss))) w x ≡ (may_hold o w x || list_any (counts w x) ss)
    by None e rest = absurd (true≢false (sym e))
    by (Some c) e rest = ap (λ (b : Bool). marker_holds c w x || b) (rest e)

-- ---- constraints

and_true : (b : Bool) → (b && true) ≡ b
and_true true = refl
and_true false = refl

not_not : (b : Bool) → not (not b) ≡ b
not_not true = refl
not_not false = refl

module _ (name : List ℕ) (rs : List ReleaseFields) (r : ReleaseFields) (w : WorldFields) (x : List ℕ)
    (told : (source : Option (List ℕ)) → meets_list (clauses_from source rs) r.version ≡ is_from source r) where
  each_met : (ss : List SourceFields) → meets_each (map (source_constraint name rs) ss) w x r.version
      ≡ list_all (λ s. not (counts w x s) || is_from (Some s.label) r) ss
  each_met [] = refl
  each_met (s ∷ ss) =
      ap (λ (b : Bool). (not (counts w x s) || b) && meets_each (map (source_constraint name rs) ss) w x r.version) (told (Some s.label))
      ∙ ap (λ (b : Bool). (not (counts w x s) || is_from (Some s.label) r) && b) (each_met ss)

  rest_met : (ss : List SourceFields)
      → meets_each (rest_constraints name rs ss) w x r.version ≡ (list_any (counts w x) ss || is_from None r)
  rest_met ss = by (has_rest ss) refl
    where
      by : (b : Bool) → has_rest ss ≡ b
          → meets_each (cond b (rest_constraint name rs ss ∷ []) []) w x r.version ≡ (list_any (counts w x) ss || is_from None r)
      by true e =
          and_true (not (all_hold (each_negated (formulas_of (conditions_of ss))) w x) || meets_list (clauses_from None rs) r.version)
          ∙ ap (λ (b : Bool). not (all_hold (each_negated (formulas_of (conditions_of ss))) w x) || b) (told None)
          ∙ ap (λ (b : Bool). b || is_from None r)
          (ap not (each_is_not (formulas_of (conditions_of ss)) w x) ∙ not_not (any_holds (formulas_of (conditions_of ss)) w x)
          ∙ conditional w x ss e)
      by false e = sym (ap (λ (b : Bool). b || is_from None r) (somewhere w x ss e))

  all_met : (ss : List SourceFields) → meets_each (constraints_on name rs ss) w x r.version ≡ is_wanted ss w x r
  all_met ss =
      list_all-append (λ (q : RequirementFields). not (may_hold q.marker w x) || meets_list q.specifiers r.version)
      (map (source_constraint name rs) ss) (rest_constraints name rs ss)
      ∙ ap (λ (b : Bool). b && meets_each (rest_constraints name rs ss) w x r.version) (each_met ss)
      ∙ ap (λ (b : Bool). list_all (λ s. not (counts w x s) || is_from (Some s.label) r) ss && b) (rest_met ss)

pub sources_are_constraints : SourcesAreConstraints
sources_are_constraints name rs ss w x d = λ k z lt.
    all_met name rs (get_or rs k z) w x (λ source. clauses_are_sources source rs d k z lt) ss
