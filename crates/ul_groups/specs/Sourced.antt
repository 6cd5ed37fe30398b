-- Sources as constraints: a source of a name is a constraint on it that excludes the releases that come from elsewhere, and
-- where no source counts a constraint excludes those that come from any.
use Rattle.std.specs.Prelude.{◌≡◌, ℕ, List, [], ◌∷◌, ◌++◌, ◌&&◌, ◌||◌, All, filter, filter_map, flat_map, map, Bool, true, false, not, Option, Some, None, is_some, bytes_eq, if◌then◌else◌}
use Rattle.std.specs.List.{list_all, list_any}
use Rattle.ul_version.specs.Fields.{Fields}
use Rattle.ul_specifier.specs.Clauses.{ClauseFields}
use Rattle.ul_specifier.specs.Meaning.{distinct_clause, meets_list}
use Rattle.ul_comparison.specs.Formulas.{Formula, all, formulas_of}
use Rattle.ul_comparison.specs.Worlds.{WorldFields}
use Rattle.ul_requirement.specs.Fields.{ReleaseFields, RequirementFields, VersionsDiffer}
use Rattle.ul_requirement.specs.Truth.{may_hold}
use Rattle.ul_index.specs.Catalogs.{Packages, releases_of}
use Rattle.ul_project.specs.Fields.{ProjectFields}
use Rattle.ul_project.specs.Lists.{Named}
use Rattle.ul_project.specs.Sources.{SourceFields}
use Rattle.ul_groups.specs.Negated.{each_negated}

-- ---- clauses

-- two sources are one, where each may be none
abbrev pub is_same : Option (List ℕ) → Option (List ℕ) → Bool
is_same None None = true
is_same None (Some other) = false
is_same (Some label) None = false
is_same (Some label) (Some other) = bytes_eq other label

-- a release comes from the source of a label, or, where none is meant, from no source
abbrev pub is_from : Option (List ℕ) → ReleaseFields → Bool
is_from source r = is_same source r.source

-- the clause that a release alone doesn't meet: any version but its own
abbrev pub excluded : ReleaseFields → ClauseFields
excluded r = distinct_clause r.version

-- the clauses that of these releases those meet that come from a source: each of the others is excluded
abbrev pub clauses_from : Option (List ℕ) → List ReleaseFields → List ClauseFields
clauses_from source rs = map excluded (filter (λ r. not (is_from source r)) rs)

-- ---- constraints

-- a constraint on a name
abbrev pub constraint : List ℕ → List ClauseFields → Option Formula → RequirementFields
constraint name clauses marker = record { name = name; extras = []; specifiers = clauses; marker = marker }

-- where a source counts, a release of the name comes from its label
abbrev pub source_constraint : List ℕ → List ReleaseFields → SourceFields → RequirementFields
source_constraint name rs s = constraint name (clauses_from (Some s.label) rs) s.condition

-- the conditions of sources, in order
abbrev pub conditions_of : List SourceFields → List Formula
conditions_of ss = filter_map (λ s. s.condition) ss

-- the negations of all conditions, joined by `and`: none of them is true
abbrev pub none_counts : List SourceFields → Formula
none_counts ss = all (each_negated (formulas_of (conditions_of ss)))

-- where no source counts, a release of the name comes from no source
abbrev pub rest_constraint : List ℕ → List ReleaseFields → List SourceFields → RequirementFields
rest_constraint name rs ss = constraint name (clauses_from None rs) (Some (none_counts ss))

-- there is a rest unless some source has no condition, and so counts everywhere
abbrev pub has_rest : List SourceFields → Bool
has_rest ss = list_all (λ s. is_some s.condition) ss

-- the constraint for the rest, where there is a rest
abbrev pub rest_constraints : List ℕ → List ReleaseFields → List SourceFields → List RequirementFields
rest_constraints name rs ss = if has_rest ss then rest_constraint name rs ss ∷ [] else []

-- the constraints on a name with these releases: one for each source, in order, and one for the rest
abbrev pub constraints_on : List ℕ → List ReleaseFields → List SourceFields → List RequirementFields
constraints_on name rs ss = map (source_constraint name rs) ss ++ rest_constraints name rs ss

-- the constraints on all names with sources, in order
abbrev pub constraints_of : List (Named (List SourceFields)) → Packages → List RequirementFields
constraints_of sources ps = flat_map (λ s. constraints_on s.0 (releases_of ps s.0) s.1) sources

-- the constraints that the sources of a project are in a catalog
abbrev pub source_constraints : ProjectFields → Packages → List RequirementFields
source_constraints p ps = constraints_of p.sources ps

-- ---- what they mean

-- the law of the clauses: of releases of different versions, those meet the clauses of a source that come from there
abbrev pub ClausesAreSources : Type 0
ClausesAreSources =
    (source : Option (List ℕ)) (rs : List ReleaseFields) → VersionsDiffer rs
    → All (λ r. meets_list (clauses_from source rs) r.version ≡ is_from source r) rs

-- a source counts in a world with an extra, where its condition is true
abbrev pub counts : WorldFields → List ℕ → SourceFields → Bool
counts w x s = may_hold s.condition w x

-- a release comes from where its sources want it: from each label whose source counts, and where none counts from none
abbrev pub is_wanted : List SourceFields → WorldFields → List ℕ → ReleaseFields → Bool
is_wanted ss w x r =
    list_all (λ s. not (counts w x s) || is_from (Some s.label) r) ss && (list_any (counts w x) ss || is_from None r)

-- a version meets the specifiers of each requirement whose marker is true in a world with an extra
abbrev pub meets_each : List RequirementFields → WorldFields → List ℕ → Fields → Bool
meets_each qs w x v = list_all (λ q. not (may_hold q.marker w x) || meets_list q.specifiers v) qs

-- the law of the constraints: of releases of different versions, in each world, those meet them that come from where the
-- sources want them
abbrev pub SourcesAreConstraints : Type 0
SourcesAreConstraints =
    (name : List ℕ) (rs : List ReleaseFields) (ss : List SourceFields) (w : WorldFields) (x : List ℕ) → VersionsDiffer rs
    → All (λ r. meets_each (constraints_on name rs ss) w x r.version ≡ is_wanted ss w x r) rs
