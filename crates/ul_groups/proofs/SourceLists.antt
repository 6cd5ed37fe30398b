-- The lists that sources are made into, one by one.
use Rattle.std.proofs.Common.{◌≡◌, ◌∙◌, ◌&&◌, ◌+◌, ◌<◌, ◌≤◌, ◌++◌, ℕ, List, [], ◌∷◌, Bool, true, false, cond, not, Option, Some, None, Result, filter, get_or, length, map, take, ap, refl, sym, subst, append-nil, append_assoc}
use Rattle.std.specs.Prelude.{All, IfOk, is_some, option_to_list}
use Rattle.std.specs.List.{cons_option}
use Rattle.std.specs.declared.alloc.AllocError.{AllocError}
use Rattle.std.proofs.lemmas.List.{map-append, take_all, take_more}
use Rattle.std.proofs.lemmas.List.Elements.{All-push, filter_more}
use Rattle.std.proofs.lemmas.List.Folds.{list_all_at, list_all_more}
use Rattle.ul_base.proofs.ForCallers.{made_holds}
use Rattle.ul_base.specs.Owned.{HasOneMore}
use Rattle.ul_specifier.specs.Clauses.{ClauseFields, IsClause}
use Rattle.ul_comparison.specs.Formulas.{AreFormulas, Formula, all, formulas_of, more}
use Rattle.ul_requirement.specs.Fields.{MayBeFormula, ReleaseFields, RequirementFields}
use Rattle.ul_index.specs.Catalogs.{Packages, releases_of}
use Rattle.ul_project.specs.Lists.{Named}
use Rattle.ul_project.specs.Sources.{SourceFields}
use Rattle.ul_groups.specs.Negated.{negated}
use Rattle.ul_groups.specs.Sourced.{clauses_from, conditions_of, constraints_of, constraints_on, excluded, has_rest, is_from, none_counts}
use Rattle.ul_groups.proofs.NegatedFormulas.{each_is_map, negated_formulas}

-- ---- clauses

module _ (source : Option (List ℕ)) (rs : List ReleaseFields) (i : ℕ) (r : ReleaseFields) (lt : i < length rs) (is : r ≡ get_or rs i r) where
  more_clauses : (b : Bool) → is_from source r ≡ b → clauses_from source (take (i + 1) rs)
      ≡ clauses_from source (take i rs) ++ map excluded (cond (not b) (r ∷ []) [])
  more_clauses b e =
      ap (map excluded) (filter_more (λ (s : ReleaseFields). not (is_from source s)) rs i r lt)
      ∙ map-append excluded (filter (λ s. not (is_from source s)) (take i rs)) _
      ∙ ap (λ (s : ReleaseFields). clauses_from source (take i rs) ++ map excluded (cond (not (is_from source s)) (s ∷ []) [])) (sym is)
      ∙ ap (λ (t : Bool). clauses_from source (take i rs) ++ map excluded (cond (not t) (r ∷ []) [])) e

  -- a release that comes from elsewhere was excluded
  pub clause_added : (before after : List ClauseFields) → is_from source r ≡ false → after ≡ before ++ excluded r ∷ []
      → before ≡ clauses_from source (take i rs) → after ≡ clauses_from source (take (i + 1) rs)
  clause_added before after e made so_far =
      made ∙ ap (λ (cs : List ClauseFields). cs ++ excluded r ∷ []) so_far ∙ sym (more_clauses false e)

  -- and one that comes from there was passed over
  pub clause_passed : (before : List ClauseFields) → is_from source r ≡ true → before ≡ clauses_from source (take i rs)
      → before ≡ clauses_from source (take (i + 1) rs)
  clause_passed before e so_far = so_far ∙ sym (append-nil (clauses_from source (take i rs))) ∙ sym (more_clauses true e)

-- clauses of specifiers, and one more that was made
pub clauses_are : (before after : List ClauseFields) (made : Result ClauseFields AllocError) → HasOneMore before made after
    → All IsClause before → IfOk made IsClause → All IsClause after
clauses_are before after made h k is =
    subst (All IsClause) (sym h.2) (All-push IsClause before h.0 k (made_holds made h.0 IsClause h.1 is))

-- ---- conditions

with_condition : (o : Option Formula) → cons_option o [] ≡ option_to_list o
with_condition None = refl
with_condition (Some c) = refl

before_condition : (o : Option Formula) (xs ys : List Formula) → cons_option o (xs ++ ys) ≡ cons_option o xs ++ ys
before_condition None xs ys = refl
before_condition (Some c) xs ys = refl

conditions_push : (ss : List SourceFields) (s : SourceFields) → conditions_of (ss ++ s ∷ []) ≡ conditions_of ss ++ option_to_list s.condition
conditions_push [] s = with_condition s.condition
conditions_push (t ∷ ts) s =
    ap (cons_option t.condition) (conditions_push ts s) ∙ before_condition t.condition (conditions_of ts) (option_to_list s.condition)

formulas_push : (fs : List Formula) (o : Option Formula) → AreFormulas (formulas_of fs) → MayBeFormula o
    → AreFormulas (formulas_of (fs ++ option_to_list o))
formulas_push [] None h k = tt
formulas_push [] (Some c) h k = (k, tt)
formulas_push (f ∷ fs) o h k = (h.0, formulas_push fs o h.1 k)

module _ (ss : List SourceFields) (i : ℕ) (s : SourceFields) (lt : i < length ss) (is : s ≡ get_or ss i s) where
  more_conditions : conditions_of (take (i + 1) ss) ≡ conditions_of (take i ss) ++ option_to_list s.condition
  more_conditions =
      ap conditions_of (take_more ss i s lt) ∙ conditions_push (take i ss) (get_or ss i s)
      ∙ ap (λ (t : SourceFields). conditions_of (take i ss) ++ option_to_list t.condition) (sym is)

  -- the negation of one more condition, where there is one
  pub negation_next : (before after : List Formula) → after ≡ before ++ map negated (option_to_list s.condition)
      → before ≡ map negated (conditions_of (take i ss)) → after ≡ map negated (conditions_of (take (i + 1) ss))
  negation_next before after made so_far =
      made ∙ ap (λ (fs : List Formula). fs ++ map negated (option_to_list s.condition)) so_far
      ∙ sym (map-append negated (conditions_of (take i ss)) (option_to_list s.condition))
      ∙ sym (ap (map negated) more_conditions)

  -- and it is a formula that a text can spell
  pub formulas_next : AreFormulas (formulas_of (conditions_of (take i ss))) → MayBeFormula s.condition
      → AreFormulas (formulas_of (conditions_of (take (i + 1) ss)))
  formulas_next h k =
      subst (λ (fs : List Formula). AreFormulas (formulas_of fs)) (sym more_conditions)
      (formulas_push (conditions_of (take i ss)) s.condition h k)

-- the negations of all conditions
pub negations_all : (ss : List SourceFields) (i : ℕ) (made : List Formula) → length ss ≤ i → made ≡ map negated (conditions_of (take i ss))
    → all (formulas_of made) ≡ none_counts ss
negations_all ss i made le so_far =
    ap (λ (fs : List Formula). all (formulas_of fs)) (so_far ∙ ap (λ (ts : List SourceFields). map negated (conditions_of ts)) (take_all i ss le))
    ∙ ap all (sym (each_is_map (conditions_of ss)))

-- are formulas
pub formulas_all : (ss : List SourceFields) (i : ℕ) (made : List Formula) → length ss ≤ i → made ≡ map negated (conditions_of (take i ss))
    → AreFormulas (formulas_of (conditions_of (take i ss))) → AreFormulas (formulas_of made)
formulas_all ss i made le so_far h =
    subst AreFormulas (each_is_map (conditions_of (take i ss)) ∙ sym (ap formulas_of so_far))
    (negated_formulas (formulas_of (conditions_of (take i ss))) h)

-- ---- the rest

module _ (ss : List SourceFields) (i : ℕ) (s : SourceFields) (lt : i < length ss) (is : s ≡ get_or ss i s) where
  here : (b : Bool) → is_some s.condition ≡ b → is_some (get_or ss i s).condition ≡ b
  here b e = sym (ap (λ (t : SourceFields). is_some t.condition) is) ∙ e

  -- a source without a condition counts everywhere
  pub no_rest : is_some s.condition ≡ false → has_rest ss ≡ false
  no_rest e = list_all_at (λ (t : SourceFields). is_some t.condition) ss i s lt (here false e)

  pub rest_still : is_some s.condition ≡ true → has_rest (take i ss) ≡ true → has_rest (take (i + 1) ss) ≡ true
  rest_still e so_far =
      list_all_more (λ (t : SourceFields). is_some t.condition) ss i s lt
      ∙ ap (λ (b : Bool). b && is_some (get_or ss i s).condition) so_far ∙ here true e

-- ---- constraints

constraints_push : (ss : List (Named (List SourceFields))) (s : Named (List SourceFields)) (ps : Packages)
    → constraints_of (ss ++ s ∷ []) ps ≡ constraints_of ss ps ++ constraints_on s.0 (releases_of ps s.0) s.1
constraints_push [] s ps = append-nil (constraints_on s.0 (releases_of ps s.0) s.1)
constraints_push (t ∷ ts) s ps =
    ap (λ (qs : List RequirementFields). constraints_on t.0 (releases_of ps t.0) t.1 ++ qs) (constraints_push ts s ps)
    ∙ sym (append_assoc (constraints_on t.0 (releases_of ps t.0) t.1) (constraints_of ts ps) (constraints_on s.0 (releases_of ps s.0) s.1))

-- the constraints on one more name
pub constraints_next : (ss : List (Named (List SourceFields))) (i : ℕ) (s : Named (List SourceFields)) (ps : Packages)
    (before after : List RequirementFields) → i < length ss → s ≡ get_or ss i s
    → after ≡ before ++ constraints_on s.0 (releases_of ps s.0) s.1 → before ≡ constraints_of (take i ss) ps
    → after ≡ constraints_of (take (i + 1) ss) ps
constraints_next ss i s ps before after lt is made so_far =
    made ∙ ap (λ (qs : List RequirementFields). qs ++ constraints_on s.0 (releases_of ps s.0) s.1) so_far
    ∙ sym (ap (λ (ts : List (Named (List SourceFields))). constraints_of ts ps)
    (take_more ss i s lt ∙ ap (λ (t : Named (List SourceFields)). take i ss ++ t ∷ []) (sym is))
    ∙ constraints_push (take i ss) s ps)
