-- Requirements adjusted by overrides, constraints and sources: an override replaces what it is on, then a constraint
-- follows what it is on, and then the constraints that sources are follow what they are on. The catalog that a project is
-- resolved in is adjusted so, and has the project's mode of pre-releases.
use Rattle.std.specs.Prelude.{ℕ, List, [], ◌∷◌, ◌++◌, map, filter, Bool}
use Rattle.std.specs.BTreeMap.{is_at}
use Rattle.ul_base.specs.Names.{name_cmp}
use Rattle.ul_requirement.specs.Fields.{PackageFields, ReleaseFields, RequirementFields}
use Rattle.ul_index.specs.Catalogs.{Packages, package_with_prereleases}
use Rattle.ul_project.specs.Extras.{joined_markers}
use Rattle.ul_project.specs.Fields.{ProjectFields}
use Rattle.ul_groups.specs.Sourced.{source_constraints}

-- what stands on each name
abbrev pub ByName : Type 0
ByName = List ℕ → List RequirementFields

-- the requirement is on the name
abbrev pub is_on : List ℕ → RequirementFields → Bool
is_on name q = is_at (name_cmp q.name) name

-- those of the requirements that are on a name, in order
abbrev pub all_on : List RequirementFields → ByName
all_on qs name = filter (is_on name) qs

-- what an override makes of a requirement: the requirement's extras, the override's specifiers, and both markers joined
-- by `and`
abbrev pub overridden_by : RequirementFields → RequirementFields → RequirementFields
overridden_by q o =
    record { name = q.name; extras = q.extras; specifiers = o.specifiers; marker = joined_markers q.marker o.marker }

-- a requirement on a name with overrides is replaced by one for each override, in order
abbrev pub replaced_by : RequirementFields → List RequirementFields → List RequirementFields
replaced_by q [] = q ∷ []
replaced_by q (o ∷ os) = map (overridden_by q) (o ∷ os)

-- what a constraint adds to a requirement: no extras, the constraint's specifiers, and both markers joined by `and`
abbrev pub constrained_by : RequirementFields → RequirementFields → RequirementFields
constrained_by q c =
    record { name = q.name; extras = []; specifiers = c.specifiers; marker = joined_markers q.marker c.marker }

-- a requirement is followed by one for each constraint on its name, in order
abbrev pub followed_by : RequirementFields → List RequirementFields → List RequirementFields
followed_by q cs = q ∷ map (constrained_by q) cs

-- requirements after the overrides
abbrev pub overridden_list : ByName → List RequirementFields → List RequirementFields
overridden_list overrides [] = []
overridden_list overrides (q ∷ qs) = replaced_by q (overrides q.name) ++ overridden_list overrides qs

-- requirements after the constraints
abbrev pub constrained_list : ByName → List RequirementFields → List RequirementFields
constrained_list constraints [] = []
constrained_list constraints (q ∷ qs) = followed_by q (constraints q.name) ++ constrained_list constraints qs

-- requirements after the overrides, then the constraints, and then the constraints that sources are: these follow what
-- constraints added, too
abbrev pub adjusted_list : (constraints overrides sources : ByName) → List RequirementFields → List RequirementFields
adjusted_list constraints overrides sources qs =
    constrained_list sources (constrained_list constraints (overridden_list overrides qs))

-- a release with other requirements
abbrev pub with_requirements : ReleaseFields → List RequirementFields → ReleaseFields
with_requirements r requirements = record r { requirements = requirements }

-- a release whose requirements are adjusted
abbrev pub adjusted_release : (constraints overrides sources : ByName) → ReleaseFields → ReleaseFields
adjusted_release constraints overrides sources r =
    with_requirements r (adjusted_list constraints overrides sources r.requirements)

-- a package whose releases are adjusted
abbrev pub adjusted_package : (constraints overrides sources : ByName) → PackageFields → PackageFields
adjusted_package constraints overrides sources p =
    record p { releases = map (adjusted_release constraints overrides sources) p.releases }

-- a catalog whose packages are adjusted by lists of constraints, overrides, and constraints that sources are
abbrev pub adjusted_catalog : (constraints overrides sources : List RequirementFields) → Packages → Packages
adjusted_catalog constraints overrides sources ps =
    map (adjusted_package (all_on constraints) (all_on overrides) (all_on sources)) ps

-- a package for a project: adjusted by the project's constraints and overrides and by the constraints that its sources
-- are, and its pre-releases count by the project's mode
abbrev pub package_for : ProjectFields → (sources : List RequirementFields) → PackageFields → PackageFields
package_for p sources found =
    package_with_prereleases p.prereleases
    (adjusted_package (all_on p.constraints) (all_on p.overrides) (all_on sources) found)

-- the catalog that a project is resolved in
abbrev pub catalog_for : ProjectFields → Packages → Packages
catalog_for p ps = map (package_for p (source_constraints p ps)) ps
