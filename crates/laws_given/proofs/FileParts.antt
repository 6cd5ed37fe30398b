-- A project file that is read, and its settings, are made of parts that are read.
use Rattle.std.proofs.Common.{◌≡◌, ℕ, List, ◌++◌, Ok, refl, subst, sym}
use Rattle.std.specs.Prelude.{codes}
use Rattle.toml.specs.Data.{Members, get_member}
use Rattle.ul_comparison.specs.Formulas.{Formula}
use Rattle.ul_requirement.specs.Fields.{RequirementFields}
use Rattle.ul_requirement.specs.declared.wish.Mode.{Mode}
use Rattle.ul_requirement.specs.declared.wish.Prereleases.{Prereleases}
use Rattle.ul_requirement.specs.declared.wish.Strategy.{Strategy}
use Rattle.ul_project.specs.Extras.{extra_requirements, extras_at}
use Rattle.ul_project.specs.DevDependencies.{dev_dependencies_in, groups_with}
use Rattle.ul_project.specs.GroupLists.{group_lists_at}
use Rattle.ul_project.specs.Head.{HeadFields, head_in}
use Rattle.ul_project.specs.Lists.{Named, names_of}
use Rattle.ul_project.specs.Profiles.{profile_of}
use Rattle.ul_project.specs.ProjectFile.{FileFields, RequiredFields, file_in, file_of, file_with, required_in}
use Rattle.ul_project.specs.Requirements.{bounds_at, requirements_at}
use Rattle.ul_project.specs.Results.{or_fault}
use Rattle.ul_project.specs.Settings.{SettingsFields, choices_in, environments_at, listed_in, settings_in, settings_with, sources_in, uv_at}
use Rattle.ul_project.specs.Shapes.{Reading, at_key, not_toml, table_at}
use Rattle.ul_project.specs.Sources.{SourceFields}
use Rattle.ul_project.specs.Toml.{toml_of}
use Rattle.ul_project.specs.declared.group.GroupEntry.{GroupEntry}
use Rattle.ul_project.specs.declared.path.Place.TheVariants.{Key}
use Rattle.ul_project.specs.declared.path.ProjectKey.TheVariants as key
use Rattle.ul_project.specs.declared.profile.Profile.{Profile}
use Rattle.laws_given.proofs.Readings.{same_ok, went_on}

-- ---- settings

-- the requirements of the group `dev`, and what is asked of the resolver
abbrev pub Asked : Type 0
Asked = List RequirementFields × SettingsFields

-- constraints, overrides, and the requirements of the group `dev`
abbrev pub Listed : Type 0
Listed = List RequirementFields × List RequirementFields × List RequirementFields

-- the sources of names
abbrev pub Sources : Type 0
Sources = List (Named (List SourceFields))

-- they are those of a table, by a profile, beside extras
pub record AreFrom (profile : Profile) (extras : List (List ℕ)) (asked : Asked) : Type 0 where
  pub members : Members
  pub sources : sources_in profile members ≡ Ok asked.1.sources
  pub constraints :
      bounds_at profile (Key key.ConstraintDependencies) (get_member (codes "constraint-dependencies") members)
      ≡ Ok asked.1.constraints
  pub overrides :
      bounds_at profile (Key key.OverrideDependencies) (get_member (codes "override-dependencies") members)
      ≡ Ok asked.1.overrides
  pub dev : dev_dependencies_in profile extras members ≡ Ok asked.0
  pub environments : environments_at (get_member (codes "environments") members) ≡ Ok asked.1.environments

abbrev settings_of : Sources → Listed → List Formula → Mode × Prereleases × Strategy → Reading Asked
settings_of sources listed environments choices = Ok (listed.2, settings_with sources listed environments choices)

module _ (profile : Profile) (extras : List (List ℕ)) where
  settings_from : (document : Members) (asked : Asked) → settings_in profile extras document ≡ Ok asked
      → AreFrom profile extras asked
  unfolding settings_in listed_in
  settings_from document asked e =
      let uv = went_on (uv_at document) _ asked e in
      let sources = went_on (sources_in profile uv.0) _ asked uv.2 in
      let listed = went_on (listed_in profile extras uv.0) _ asked sources.2 in
      let environments = went_on (environments_at (get_member (codes "environments") uv.0)) _ asked listed.2 in
      let choices = went_on (choices_in profile uv.0) _ asked environments.2 in
      let bounds = get_member (codes "constraint-dependencies") uv.0 in
      let constraints = went_on (bounds_at profile (Key key.ConstraintDependencies) bounds) _ listed.0 listed.1 in
      let others = get_member (codes "override-dependencies") uv.0 in
      let overrides = went_on (bounds_at profile (Key key.OverrideDependencies) others) _ listed.0 constraints.2 in
      let dev = went_on (dev_dependencies_in profile extras uv.0) _ listed.0 overrides.2 in
      let lists : Listed = (constraints.0, overrides.0, dev.0) in
      let made : Asked = (dev.0, settings_with sources.0 lists environments.0 choices.0) in
      let same = same_ok lists listed.0 dev.2 in
      let last : settings_of sources.0 lists environments.0 choices.0 ≡ Ok asked =
      subst (λ (l : Listed). settings_of sources.0 l environments.0 choices.0 ≡ Ok asked) (sym same) choices.2 in
      subst (AreFrom profile extras) {x = made} (same_ok made asked last) (record {
        members = uv.0;
        sources = sources.1;
        constraints = constraints.1;
        overrides = overrides.1;
        dev = dev.1;
        environments = environments.1;
      })

-- ---- the whole file

abbrev file_read : HeadFields → RequiredFields → Asked → Reading FileFields
file_read head required asked = Ok (file_with head required asked)

-- the file of a document
pub record IsFileFrom (f : FileFields) : Type 0 where
  pub document : Members
  pub project : Members
  pub head : head_in project ≡ Ok f.head
  pub profile : Profile
  pub own : List RequirementFields
  pub dependencies : requirements_at profile (Key key.Dependencies) (get_member (codes "dependencies") project) ≡ Ok own
  pub lists : List (Named (List RequirementFields))
  pub optional : extras_at profile (get_member (codes "optional-dependencies") project) ≡ Ok lists
  pub requirements : own ++ extra_requirements lists ≡ f.requirements
  pub extras : names_of lists ≡ f.extras
  pub groups : List (Named (List GroupEntry))
  pub listed : group_lists_at profile (names_of lists) (get_member (codes "dependency-groups") document) ≡ Ok groups
  pub dev : List RequirementFields
  pub with_dev : groups_with dev groups ≡ f.groups
  pub settings : AreFrom profile (names_of lists) (dev, f.settings)

document_from : (document : Members) (f : FileFields) → file_in document ≡ Ok f → IsFileFrom f
unfolding file_in required_in
document_from document f e =
    let profile = profile_of document in
    let project = went_on (table_at (at_key key.Project) (get_member (codes "project") document)) _ f e in
    let head = went_on (head_in project.0) _ f project.2 in
    let required = went_on (required_in profile document project.0) _ f head.2 in
    let asked = went_on (settings_in profile (names_of required.0.extras) document) _ f required.2 in
    let listed = get_member (codes "dependencies") project.0 in
    let dependencies = went_on (requirements_at profile (Key key.Dependencies) listed) _ required.0 required.1 in
    let optional = get_member (codes "optional-dependencies") project.0 in
    let extras = went_on (extras_at profile optional) _ required.0 dependencies.2 in
    let members = get_member (codes "dependency-groups") document in
    let groups = went_on (group_lists_at profile (names_of extras.0) members) _ required.0 extras.2 in
    let parts : RequiredFields = record { requirements = dependencies.0; extras = extras.0; groups = groups.0 } in
    let same : required.0 ≡ parts = sym {a = parts} (same_ok parts required.0 groups.2) in
    let settings : AreFrom profile (names_of parts.extras) asked.0 =
    settings_from profile (names_of parts.extras) document asked.0
    (subst (λ (r : RequiredFields). settings_in profile (names_of r.extras) document ≡ Ok asked.0) {y = parts} same
    asked.1) in
    let made : FileFields = file_with head.0 parts asked.0 in
    let last : file_read head.0 parts asked.0 ≡ Ok f =
    subst (λ (r : RequiredFields). file_read head.0 r asked.0 ≡ Ok f) {y = parts} same asked.2 in
    subst IsFileFrom {x = made} (same_ok made f last) (record {
      document = document;
      project = project.0;
      head = head.1;
      profile = profile;
      own = dependencies.0;
      dependencies = dependencies.1;
      lists = extras.0;
      optional = extras.1;
      requirements = refl;
      extras = refl;
      groups = groups.0;
      listed = groups.1;
      dev = asked.0.0;
      with_dev = refl;
      settings = settings;
    })

-- a project file that is read is a document's
pub file_from : (bytes : List ℕ) (f : FileFields) → file_of bytes ≡ Ok f → IsFileFrom f
unfolding file_of
file_from bytes f e =
    let document = went_on (or_fault not_toml (toml_of bytes)) file_in f e in document_from document.0 f document.2
