-- A project file: a `pyproject.toml` (PEP 621, PEP 735), with keys of uv. The checks are made in the order in which
-- they stand here, and the first that fails answers. Other keys and tables are passed over.
use Rattle.std.specs.Prelude.{ℕ, List, [], ◌∷◌, ◌++◌, codes, map, false, None, Ok}
use Rattle.std.specs.List.Sorted.{IsStrictlySortedBy}
use Rattle.toml.specs.Data.{Members, get_member}
use Rattle.ul_base.specs.Names.{name_cmp}
use Rattle.ul_version.specs.Fields.{Fields}
use Rattle.ul_requirement.specs.Fields.{PackageFields, RequirementFields}
use Rattle.ul_requirement.specs.declared.wish.Prereleases.TheVariants.{Allow}
use Rattle.ul_nodes.specs.Plain.{Plain}
use Rattle.ul_project.specs.DevDependencies.{groups_with}
use Rattle.ul_project.specs.Extras.{extra_requirements, extra_size, extras_at}
use Rattle.ul_project.specs.Fields.{ProjectFields}
use Rattle.ul_project.specs.GroupLists.{group_lists_at}
use Rattle.ul_project.specs.Groups.{GroupFields}
use Rattle.ul_project.specs.Head.{HeadFields, head_in}
use Rattle.ul_project.specs.Lists.{Named, names_of}
use Rattle.ul_project.specs.Profiles.{profile_of}
use Rattle.ul_project.specs.Requirements.{requirements_at}
use Rattle.ul_project.specs.Results.{◌>>=◌, or_fault}
use Rattle.ul_project.specs.Settings.{SettingsFields, settings_in}
use Rattle.ul_project.specs.Shapes.{Reading, at_key, not_toml, table_at}
use Rattle.ul_project.specs.Sources.{of_others}
use Rattle.ul_project.specs.Toml.{toml_of}
use Rattle.ul_project.specs.declared.group.GroupEntry.{GroupEntry}
use Rattle.ul_project.specs.declared.path.Place.TheVariants.{Key}
use Rattle.ul_project.specs.declared.path.ProjectKey.TheVariants as key
use Rattle.ul_project.specs.declared.profile.Profile.{Profile}

-- what a file says: the name, the version and the interpreters, what the project requires, its extras, how many of the
-- requirements are each extra's, its groups, and what is asked of the resolver
pub record FileFields : Type 0 where
  pub head : HeadFields
  pub requirements : List RequirementFields
  pub extras : List (List ℕ)
  pub sizes : List ℕ
  pub groups : List GroupFields
  pub settings : SettingsFields

-- what is true of each file: extras and groups stand in byte order of their names, each once
pub record IsFile (extras groups : List (List ℕ)) : Type 0 where
  pub extras_rise : IsStrictlySortedBy name_cmp extras
  pub groups_rise : IsStrictlySortedBy name_cmp groups

-- what a document and its table `project` require: the requirements, the lists of the extras, and those of the groups
pub record RequiredFields : Type 0 where
  pub requirements : List RequirementFields
  pub extras : List (Named (List RequirementFields))
  pub groups : List (Named (List GroupEntry))

-- what they require, in the order of the checks
unfoldable pub required_in : Profile → (document project : Members) → Reading RequiredFields
required_in profile document project = do
  dependencies ← requirements_at profile (Key key.Dependencies) (get_member (codes "dependencies") project)
  extras ← extras_at profile (get_member (codes "optional-dependencies") project)
  groups ← group_lists_at profile (names_of extras) (get_member (codes "dependency-groups") document)
  Ok (record { requirements = dependencies; extras = extras; groups = groups })

-- the file of what is required, of the requirements of the group `dev`, and of what is asked of the resolver
abbrev pub file_with : HeadFields → RequiredFields → List RequirementFields × SettingsFields → FileFields
file_with head required asked = record {
  head = head;
  requirements = required.requirements ++ extra_requirements required.extras;
  extras = names_of required.extras;
  sizes = map extra_size required.extras;
  groups = groups_with asked.0 required.groups;
  settings = asked.1;
}

-- what a document says, read by its profile
unfoldable pub file_in : Members → Reading FileFields
file_in document = do
  project ← table_at (at_key key.Project) (get_member (codes "project") document)
  head ← head_in project
  required ← required_in (profile_of document) document project
  asked ← settings_in (profile_of document) (names_of required.extras) document
  Ok (file_with head required asked)

-- what the bytes say
unfoldable pub file_of : List ℕ → Reading FileFields
file_of bytes = or_fault not_toml (toml_of bytes) >>= file_in

-- the project as a package with one release, which asks for no interpreters; which pre-releases of it count isn't looked
-- at, since its release always does
abbrev pub package_with : List ℕ → Fields → List RequirementFields → PackageFields
package_with name version requirements = record {
  name = name;
  entries = 1;
  prereleases = Allow;
  releases = record { version = version; python = []; requirements = requirements; yanked = false; files = []; source = None } ∷ [];
}

-- the project that a file says, with a region
abbrev pub project_with : Plain → FileFields → ProjectFields
project_with region file = record {
  «package» = package_with file.head.name file.head.version file.requirements;
  extras = file.extras;
  sizes = file.sizes;
  environments = file.settings.environments;
  region = region;
  mode = file.settings.mode;
  prereleases = file.settings.prereleases;
  strategy = file.settings.strategy;
  groups = file.groups;
  sources = of_others file.head.name file.settings.sources;
  constraints = file.settings.constraints;
  overrides = file.settings.overrides;
}
