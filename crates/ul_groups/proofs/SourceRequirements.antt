-- The constraints that sources are are requirements.
use Rattle.std.proofs.Common.{◌++◌, ℕ, List, [], ◌∷◌, Bool, true, false, cond, Option, Some, None, map}
use Rattle.std.specs.List.{AllByRecursion, cons_option}
use Rattle.std.specs.List.Sorted.{IsStrictlySortedBy}
use Rattle.ul_base.specs.Names.{name_cmp}
use Rattle.ul_comparison.specs.Formulas.{AreFormulas, Formula, formulas_of}
use Rattle.ul_requirement.specs.Fields.{IsRequirement, MayBeFormula, ReleaseFields, RequirementFields}
use Rattle.ul_index.specs.Catalogs.{Packages, releases_of}
use Rattle.ul_project.specs.Lists.{Named}
use Rattle.ul_project.specs.Sources.{IsSource, SourceFields}
use Rattle.ul_groups.specs.Sourced.{conditions_of, constraints_of, constraints_on, has_rest, rest_constraint, rest_constraints, source_constraint}
use Rattle.ul_groups.proofs.NegatedFormulas.{negated_formulas}

none_rise : IsStrictlySortedBy name_cmp []
unfolding IsStrictlySortedBy
none_rise = tt

-- the conditions of sources are formulas that a text can spell
pub conditions_formulas : (ss : List SourceFields) → AllByRecursion IsSource ss → AreFormulas (formulas_of (conditions_of ss))
conditions_formulas [] h = tt
conditions_formulas (s ∷ ss) h = by s.condition h.0.condition (conditions_formulas ss h.1)
  where
    by : (o : Option Formula) → MayBeFormula o → AreFormulas (formulas_of (conditions_of ss))
        → AreFormulas (formulas_of (cons_option o (conditions_of ss)))
    by None k rest = rest
    by (Some c) k rest = (k, rest)

-- each source of each name is one
abbrev pub AreSources : List (Named (List SourceFields)) → Type 0
AreSources sources = AllByRecursion (λ s. AllByRecursion IsSource s.1) sources

joined : (xs ys : List RequirementFields) → AllByRecursion IsRequirement xs → AllByRecursion IsRequirement ys → AllByRecursion IsRequirement (xs ++ ys)
joined [] ys h k = k
joined (x ∷ xs) ys h k = (h.0, joined xs ys h.1 k)

each_source : (name : List ℕ) (rs : List ReleaseFields) (ss : List SourceFields) → AllByRecursion IsSource ss
    → AllByRecursion IsRequirement (map (source_constraint name rs) ss)
each_source name rs [] h = tt
each_source name rs (s ∷ ss) h = (record { extras = none_rise; marker = h.0.condition }, each_source name rs ss h.1)

the_rest : (name : List ℕ) (rs : List ReleaseFields) (ss : List SourceFields) → AllByRecursion IsSource ss
    → AllByRecursion IsRequirement (rest_constraints name rs ss)
the_rest name rs ss h = by (has_rest ss)
  where
    by : (b : Bool) → AllByRecursion IsRequirement (cond b (rest_constraint name rs ss ∷ []) [])
    by true = (record { extras = none_rise; marker = negated_formulas (formulas_of (conditions_of ss)) (conditions_formulas ss h) }, tt)
    by false = tt

on_name : (name : List ℕ) (rs : List ReleaseFields) (ss : List SourceFields) → AllByRecursion IsSource ss
    → AllByRecursion IsRequirement (constraints_on name rs ss)
on_name name rs ss h =
    joined (map (source_constraint name rs) ss) (rest_constraints name rs ss) (each_source name rs ss h) (the_rest name rs ss h)

pub constraints_are_requirements : (sources : List (Named (List SourceFields))) (ps : Packages) → AreSources sources
    → AllByRecursion IsRequirement (constraints_of sources ps)
constraints_are_requirements [] ps h = tt
constraints_are_requirements (s ∷ ss) ps h =
    joined (constraints_on s.0 (releases_of ps s.0) s.1) (constraints_of ss ps) (on_name s.0 (releases_of ps s.0) s.1 h.0)
    (constraints_are_requirements ss ps h.1)
