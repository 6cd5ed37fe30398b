-- What is true of each requirement that is read, of those of extras, and of what constraints, overrides and sources make
-- of these, is true of each requirement of the catalog that files give.
use Rattle.std.proofs.Common.{◌≡◌, ℕ, List, [], ◌∷◌, map, Option, Ok, sym, subst}
use Rattle.std.specs.List.{AllByRecursion}
use Rattle.ul_files.specs.Files.{FileMap}
use Rattle.ul_comparison.specs.Formulas.{Formula}
use Rattle.ul_requirement.specs.Fields.{PackageFields, ReleaseFields, RequirementFields}
use Rattle.ul_index.specs.Catalogs.{Packages}
use Rattle.ul_index.specs.Documents.{document_of}
use Rattle.ul_load.specs.Loading.{Beginning, LoadAnswer, next_name}
use Rattle.ul_project.specs.Fields.{ProjectFields}
use Rattle.ul_project.specs.Headline.{IsSaid}
use Rattle.ul_groups.specs.Adjusted.{catalog_for, package_for}
use Rattle.ul_groups.specs.Sourced.{source_constraints}
use Rattle.ul_inputs.specs.Catalogs.{beginning}
use Rattle.ul_inputs.specs.Resolutions.{ResolutionFields, resolution_in}
use Rattle.laws_given.proofs.AdjustedReleases.{IsOfBounds, releases_adjusted}
use Rattle.laws_given.proofs.Bounds.{file_bounds}
use Rattle.laws_given.proofs.Documents.{IsReleaseWith, document_has}
use Rattle.laws_given.proofs.Environments.{file_environments}
use Rattle.laws_given.proofs.ExpandedProjects.{IsOfRequirements, IsProjectWith, expanded_by, expanded_has, project_with}
use Rattle.laws_given.proofs.FileRequirements.{AreAll, IsOfExtras, file_has}
use Rattle.laws_given.proofs.FileSources.{AreSources, file_sources, others_have}
use Rattle.laws_given.proofs.Inputs.{IsCatalogFrom, IsProjectFrom, resolution_from}
use Rattle.laws_given.proofs.Lists.{all_as, more}
use Rattle.laws_given.proofs.LoadedPackages.{package_has}
use Rattle.laws_given.proofs.ReadMarkers.{AreMarkers}
use Rattle.laws_given.proofs.ReadRequirements.{AreRead}
use Rattle.laws_given.proofs.SourceConstraints.{IsOfConditions, constraints_have}
use Rattle.laws_given.proofs.Turns.{loaded}

-- each requirement of a release is such
abbrev pub HasEach : (RequirementFields → Type 0) → ReleaseFields → Type 0
HasEach P r = AreAll P r.requirements

-- each requirement of a package's releases is such
abbrev pub HasAll : (RequirementFields → Type 0) → PackageFields → Type 0
HasAll P found = AllByRecursion (HasEach P) found.releases

-- what is true of each requirement that is read, and of what is made of these; and another thing that is true of each
-- marker that a document's text spells
pub record IsOfFiles (P : RequirementFields → Type 0) (M : Formula → Type 0) : Type 0 where
  pub read : AreRead P
  pub extra : IsOfExtras P
  pub bounds : IsOfBounds P P
  pub markers : AreMarkers M
  pub conditions : IsOfConditions P M

-- a project whose requirements, constraints, overrides and sources are such
record IsProjectOf (P : RequirementFields → Type 0) (M : Formula → Type 0) (p : ProjectFields) : Type 0 where
  listed : IsProjectWith P (HasEach P) p
  constraints : AreAll P p.constraints
  overrides : AreAll P p.overrides
  sources : AreSources M p.sources

module _ (P : RequirementFields → Type 0) (M : Formula → Type 0) (of : IsOfFiles P M) where
  -- whether a release has such requirements is said by them alone
  of_requirements : IsOfRequirements P (HasEach P)
  of_requirements = record { has = λ r h. h; stays = λ r qs h k. k }

  -- ---- the project

  said_has : (bytes : List ℕ) (p : ProjectFields) → IsSaid bytes p → IsProjectOf P M p
  said_has bytes p said =
      let listed = file_has P of.read of.extra bytes said.file said.said in
      let bounds = file_bounds P of.read bytes said.file said.said in
      let sources = file_sources M of.markers bytes said.file said.said in
      subst (IsProjectOf P M) (sym said.project.fields) (record {
        listed = record { releases = (listed.requirements, tt); extras = listed.extras; groups = listed.groups };
        constraints = bounds.constraints;
        overrides = bounds.overrides;
        sources = others_have M said.file.head.name said.file.settings.sources sources;
      })

  project_has : (p : ProjectFields) → IsProjectFrom p → IsProjectOf P M p
  project_has p from =
      let by = expanded_by from.read p from.expanded in
      let said = said_has from.bytes from.read from.said in
      subst (IsProjectOf P M) {x = project_with from.read by.lists} by.is (record {
        listed =
            expanded_has P (HasEach P) of_requirements of.extra from.read by.lists said.listed by.of_groups;
        constraints = said.constraints;
        overrides = said.overrides;
        sources = said.sources;
      })

  -- ---- what is loaded

  document_all : (name bytes : List ℕ) (found : PackageFields) → document_of name bytes ≡ Ok found → HasAll P found
  document_all name bytes found e =
      all_as (IsReleaseWith P) (HasEach P) (λ r h. h.requirements) found.releases
      (document_has P of.read name bytes found e).releases

  loaded_has : (m : FileMap) (folder : List ℕ) (b : Beginning) (c : Packages) → HasAll P b.project
      → LoadAnswer m folder b (Ok c) → AllByRecursion (HasAll P) c
  loaded_has m folder b c project loads =
      loaded m folder b (AllByRecursion (HasAll P)) (λ s. AllByRecursion (HasAll P) s.packages) (record {
        first = (project, tt);
        turn = λ s found lt h e.
            more (HasAll P) s.packages (found.1 ∷ []) h
            (package_has (HasAll P) (next_name s) tt (document_all (next_name s)) m folder s.bytes found e, tt);
        so = λ s h. h;
      }) c loads

  -- ---- what is adjusted

  packages_have : (p : ProjectFields) (sources : List RequirementFields) → IsProjectOf P M p → AreAll P sources
      → (c : Packages) → AllByRecursion (HasAll P) c → AllByRecursion (HasAll P) (map (package_for p sources) c)
  packages_have p sources h from [] all = tt
  packages_have p sources h from (found ∷ others) all = (
    releases_adjusted P P of.bounds (HasEach P) of_requirements p.constraints p.overrides sources h.constraints
        h.overrides from found.releases all.0,
    packages_have p sources h from others all.1,
  )

  adjusted_has : (p : ProjectFields) → IsProjectOf P M p → (c : Packages) → AllByRecursion (HasAll P) c
      → AllByRecursion (HasAll P) (catalog_for p c)
  adjusted_has p h c all =
      packages_have p (source_constraints p c) h (constraints_have P M of.conditions p c h.sources) c all

  catalog_has : (m : FileMap) (folder : List ℕ) (p : ProjectFields) (c : Packages) → IsProjectOf P M p
      → IsCatalogFrom m folder p c → AllByRecursion (HasAll P) c
  catalog_has m folder p c project from =
      let all = loaded_has m folder (beginning p) from.loaded project.listed.releases from.loads in
      subst (λ (x : Packages). AllByRecursion (HasAll P) x) {x = catalog_for p from.loaded} from.is
      (adjusted_has p project from.loaded all)

  -- each requirement of the catalog is such
  pub given_all : (project folder : List ℕ) (old : Option (List ℕ)) (m : FileMap) (r : ResolutionFields)
      → (resolution_in project folder old m).gives (Ok r) → AllByRecursion (HasAll P) r.catalog
  given_all project folder old m r gave =
      let from = resolution_from project folder old m r gave in
      catalog_has m folder r.project r.catalog (project_has r.project from.project) from.catalog

module _ (M : Formula → Type 0) (law : AreMarkers M) where
  said_environments : (bytes : List ℕ) (p : ProjectFields) → IsSaid bytes p → AllByRecursion M p.environments
  said_environments bytes p said =
      subst (λ (x : ProjectFields). AllByRecursion M x.environments) (sym said.project.fields)
      (file_environments M law bytes said.file said.said)

  -- the environments of the project that files give are such, where each marker that a document's text spells is
  pub given_environments : (project folder : List ℕ) (old : Option (List ℕ)) (m : FileMap) (r : ResolutionFields)
      → (resolution_in project folder old m).gives (Ok r) → AllByRecursion M r.project.environments
  given_environments project folder old m r gave =
      let from = (resolution_from project folder old m r gave).project in
      let by = expanded_by from.read r.project from.expanded in
      subst (λ (x : ProjectFields). AllByRecursion M x.environments) {x = project_with from.read by.lists} by.is
      (said_environments from.bytes from.read from.said)
