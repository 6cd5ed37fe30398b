-- What is true of constraints as soon as another thing is true of their markers is true of the constraints that sources
-- are, where that is true of their conditions.
use Rattle.std.proofs.Common.{List, [], ◌∷◌, ◌++◌, ℕ, map, Bool, true, false, cond, Option, Some, None, flat_map}
use Rattle.std.specs.Prelude.{IfSome}
use Rattle.std.specs.List.{AllByRecursion}
use Rattle.ul_specifier.specs.Clauses.{ClauseFields}
use Rattle.ul_comparison.specs.Formulas.{Formula, all, formulas_of}
use Rattle.ul_requirement.specs.Fields.{ReleaseFields, RequirementFields}
use Rattle.ul_index.specs.Catalogs.{Packages, releases_of}
use Rattle.ul_project.specs.Fields.{ProjectFields}
use Rattle.ul_project.specs.Sources.{SourceFields}
use Rattle.ul_groups.specs.Negated.{each_negated}
use Rattle.ul_groups.specs.Sourced.{clauses_from, conditions_of, constraint, constraints_of, constraints_on, has_rest, none_counts, rest_constraint, rest_constraints, source_constraint, source_constraints}
use Rattle.laws_given.proofs.FileParts.{Sources}
use Rattle.laws_given.proofs.FileRequirements.{AreAll}
use Rattle.laws_given.proofs.FileSources.{AreSources, HasCondition}
use Rattle.laws_given.proofs.Lists.{more}

-- what is true of a constraint as soon as another thing is true of its marker, and of the marker that says that none of
-- such conditions is true
pub record IsOfConditions (P : RequirementFields → Type 0) (M : Formula → Type 0) : Type 0 where
  pub each : (name : List ℕ) (clauses : List ClauseFields) (marker : Option Formula) → IfSome marker M
      → P (constraint name clauses marker)
  pub none : (conditions : List Formula) → AllByRecursion M conditions → M (all (each_negated (formulas_of conditions)))

module _ (P : RequirementFields → Type 0) (M : Formula → Type 0) (of : IsOfConditions P M) where
  each_source : (name : List ℕ) (rs : List ReleaseFields) (ss : List SourceFields) → AllByRecursion (HasCondition M) ss
      → AreAll P (map (source_constraint name rs) ss)
  each_source name rs [] h = tt
  each_source name rs (s ∷ ss) h =
      (of.each name (clauses_from (Some s.label) rs) s.condition h.0, each_source name rs ss h.1)

  conditions_are : (ss : List SourceFields) → AllByRecursion (HasCondition M) ss → AllByRecursion M (conditions_of ss)
  conditions_are [] h = tt
  conditions_are (s ∷ ss) h = by_condition s.condition h.0 (conditions_are ss h.1)
    where
      by_condition : (o : Option Formula) → IfSome o M → AllByRecursion M (conditions_of ss)
          → AllByRecursion M (conditions_of (record { label = s.label; condition = o } ∷ ss))
      by_condition None k rest = rest
      by_condition (Some f) k rest = (k, rest)

  rest_has : (name : List ℕ) (rs : List ReleaseFields) (ss : List SourceFields) → AllByRecursion (HasCondition M) ss
      → AreAll P (rest_constraints name rs ss)
  rest_has name rs ss h = by_test (has_rest ss)
    where
      by_test : (b : Bool) → AreAll P (cond b (rest_constraint name rs ss ∷ []) [])
      by_test false = tt
      by_test true =
          (of.each name (clauses_from None rs) (Some (none_counts ss)) (of.none (conditions_of ss) (conditions_are ss h)), tt)

  all_sources : (sources : Sources) (ps : Packages) → AreSources M sources → AreAll P (constraints_of sources ps)
  all_sources [] ps h = tt
  all_sources (s ∷ sources) ps h =
      let rs = releases_of ps s.0 in
      more P (constraints_on s.0 rs s.1) (constraints_of sources ps)
      (more P (map (source_constraint s.0 rs) s.1) (rest_constraints s.0 rs s.1) (each_source s.0 rs s.1 h.0.1)
      (rest_has s.0 rs s.1 h.0.1))
      (all_sources sources ps h.1)

  -- the constraints that a project's sources are in a catalog are such
  pub constraints_have : (p : ProjectFields) (ps : Packages) → AreSources M p.sources → AreAll P (source_constraints p ps)
  constraints_have p ps h = all_sources p.sources ps h
