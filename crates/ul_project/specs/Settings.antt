-- What a project file asks of a resolver under `tool.uv`.
use Rattle.std.specs.Prelude.{ℕ, List, [], ◌∷◌, codes, Option, Some, None, Ok, Err, if◌then◌else◌}
use Rattle.std.specs.Str.{bytes_eq}
use Rattle.toml.specs.Data.{Data, string, Members, get_member}
use Rattle.ul_comparison.specs.Formulas.{Formula}
use Rattle.ul_marker.specs.Reading.{marker_of}
use Rattle.ul_requirement.specs.Fields.{RequirementFields}
use Rattle.ul_requirement.specs.declared.wish.Mode.{Mode}
use Rattle.ul_requirement.specs.declared.wish.Mode.TheVariants.{Highest, Lowest, LowestDirect}
use Rattle.ul_requirement.specs.declared.wish.Prereleases.{Prereleases}
use Rattle.ul_requirement.specs.declared.wish.Prereleases.TheVariants.{Disallow, Allow, IfNecessary, Explicit, IfNecessaryOrExplicit}
use Rattle.ul_requirement.specs.declared.wish.Strategy.{Strategy}
use Rattle.ul_requirement.specs.declared.wish.Strategy.TheVariants.{Fewest, RequiresPython, Deep}
use Rattle.ul_project.specs.DevDependencies.{dev_dependencies_in}
use Rattle.ul_project.specs.Lists.{Named}
use Rattle.ul_project.specs.Profiles.{profile_at}
use Rattle.ul_project.specs.Requirements.{bounds_at}
use Rattle.ul_project.specs.Results.{◌>>=◌, each_from, or_fault}
use Rattle.ul_project.specs.Shapes.{Reading, at_key, items_at, optional_table_at, shape, text_at, text_or, unsupported}
use Rattle.ul_project.specs.Sources.{SaidSource, SourceFields, all_supported, said_sources}
use Rattle.ul_project.specs.Toml.{says_nothing}
use Rattle.ul_project.specs.declared.path.Place.TheVariants.{Key}
use Rattle.ul_project.specs.declared.path.ProjectKey.{ProjectKey}
use Rattle.ul_project.specs.declared.path.ProjectKey.TheVariants as key
use Rattle.ul_project.specs.declared.path.ProjectPath.{ProjectPath}
use Rattle.ul_project.specs.declared.path.ProjectPath.TheVariants.{Entry}
use Rattle.ul_project.specs.declared.profile.Profile.{Profile}
use Rattle.ul_project.specs.declared.profile.Profile.TheVariants.{Strict, Wide}

-- ---- tables

-- `tool` is a table, and so are `tool.uv` and `tool.unilock`, whose profile is known
unfoldable pub uv_at : Members → Reading Members
uv_at document = do
  tool ← optional_table_at (at_key key.Tool) (get_member (codes "tool") document)
  uv ← optional_table_at (at_key key.Uv) (get_member (codes "uv") tool)
  _ ← profile_at tool
  Ok uv

-- the key says nothing, since what it says isn't supported
abbrev pub silent_at : ProjectKey → Option Data → Reading (Unit {0})
silent_at k value = if says_nothing value then Ok tt else Err (unsupported (at_key k))

-- keys that the profile `strict` doesn't support say nothing; `wide` passes them over, but for the last, which it reads
-- elsewhere
unfoldable pub strictly_silent : Profile → Members → Reading (Unit {0})
strictly_silent Wide uv = Ok tt
strictly_silent Strict uv = do
  _ ← silent_at key.Index (get_member (codes "index") uv)
  _ ← silent_at key.ExtraIndexUrl (get_member (codes "extra-index-url") uv)
  _ ← silent_at key.FindLinks (get_member (codes "find-links") uv)
  _ ← silent_at key.Workspace (get_member (codes "workspace") uv)
  silent_at key.DevDependencies (get_member (codes "dev-dependencies") uv)

-- the sources that a profile reads: `strict` doesn't support them
unfoldable pub said_in : Profile → Members → Reading (List (Named (List SaidSource)))
said_in Strict uv = silent_at key.Sources (get_member (codes "sources") uv) >>= λ _. Ok []
said_in Wide uv = said_sources Wide (get_member (codes "sources") uv)

-- the sources; no key that isn't supported says anything, and no source asks for what isn't
unfoldable pub sources_in : Profile → Members → Reading (List (Named (List SourceFields)))
sources_in profile uv = do
  said ← said_in profile uv
  _ ← silent_at key.Conflicts (get_member (codes "conflicts") uv)
  sources ← all_supported said
  _ ← strictly_silent profile uv
  Ok sources

-- ---- lists of requirements

-- the constraints, the overrides, and the requirements of the group `dev` beside these extras of the project
unfoldable pub listed_in : Profile → List (List ℕ) → Members → Reading (List RequirementFields × List RequirementFields × List RequirementFields)
listed_in profile extras uv = do
  constraints ← bounds_at profile (Key key.ConstraintDependencies) (get_member (codes "constraint-dependencies") uv)
  overrides ← bounds_at profile (Key key.OverrideDependencies) (get_member (codes "override-dependencies") uv)
  dev ← dev_dependencies_in profile extras uv
  Ok (constraints, overrides, dev)

-- ---- environments

-- the path of an environment
abbrev pub environment_path : ℕ → ProjectPath
environment_path i = Entry (Key key.Environments) i

-- a marker
abbrev pub environment_of : ProjectPath → List ℕ → Reading Formula
environment_of path text = or_fault (shape path) (marker_of text)

-- an entry that is an environment: a text, and a marker
unfoldable pub environment_at : ℕ → Data → Reading Formula
environment_at i d = text_at (environment_path i) (Some d) >>= environment_of (environment_path i)

-- the environments: a marker, or an array of them; nothing is as the empty array
unfoldable pub environments_at : Option Data → Reading (List Formula)
environments_at None = Ok []
environments_at (Some (string text)) = environment_of (at_key key.Environments) text >>= λ m. Ok (m ∷ [])
environments_at (Some value) = items_at (at_key key.Environments) (Some value) >>= each_from environment_at 0

-- ---- modes

-- a mode by its word
abbrev pub mode_of : List ℕ → Option Mode
mode_of word =
    if bytes_eq word (codes "highest") then Some Highest
    else if bytes_eq word (codes "lowest") then Some Lowest
    else if bytes_eq word (codes "lowest-direct") then Some LowestDirect
    else None

-- which versions are tried first; where nothing is said, the highest
unfoldable pub mode_at : Option Data → Reading Mode
mode_at value =
    text_or (codes "highest") (at_key key.Resolution) value >>= λ word. or_fault (shape (at_key key.Resolution)) (mode_of word)

-- the pre-releases that count, by their word
abbrev pub wide_prereleases : List ℕ → Option Prereleases
wide_prereleases word =
    if bytes_eq word (codes "disallow") then Some Disallow
    else if bytes_eq word (codes "allow") then Some Allow
    else if bytes_eq word (codes "if-necessary") then Some IfNecessary
    else if bytes_eq word (codes "explicit") then Some Explicit
    else if bytes_eq word (codes "if-necessary-or-explicit") then Some IfNecessaryOrExplicit
    else None

-- the same for a profile: `strict` supports one word
abbrev pub prereleases_of : Profile → List ℕ → Option Prereleases
prereleases_of Strict word = if bytes_eq word (codes "if-necessary-or-explicit") then Some IfNecessaryOrExplicit else None
prereleases_of Wide word = wide_prereleases word

-- which pre-releases count; where nothing is said, those that are necessary or explicit
unfoldable pub prereleases_at : Profile → Option Data → Reading Prereleases
prereleases_at profile None = Ok IfNecessaryOrExplicit
prereleases_at profile (Some (string word)) = or_fault (unsupported (at_key key.Prerelease)) (prereleases_of profile word)
prereleases_at profile (Some other) = Err (unsupported (at_key key.Prerelease))

-- a strategy by its word
abbrev pub strategy_of : List ℕ → Option Strategy
strategy_of word =
    if bytes_eq word (codes "fewest") then Some Fewest
    else if bytes_eq word (codes "requires-python") then Some RequiresPython
    else if bytes_eq word (codes "deep") then Some Deep
    else None

-- when a region is split; where nothing is said, as seldom as can be
unfoldable pub strategy_at : Option Data → Reading Strategy
strategy_at None = Ok Fewest
strategy_at (Some (string word)) = or_fault (unsupported (at_key key.ForkStrategy)) (strategy_of word)
strategy_at (Some other) = Err (unsupported (at_key key.ForkStrategy))

-- which versions are tried first, which pre-releases count, and when a region is split
unfoldable pub choices_in : Profile → Members → Reading (Mode × Prereleases × Strategy)
choices_in profile uv = do
  mode ← mode_at (get_member (codes "resolution") uv)
  prereleases ← prereleases_at profile (get_member (codes "prerelease") uv)
  strategy ← strategy_at (get_member (codes "fork-strategy") uv)
  Ok (mode, prereleases, strategy)

-- ---- all of them

-- what is asked of the resolver
pub record SettingsFields : Type 0 where
  pub sources : List (Named (List SourceFields))
  pub constraints : List RequirementFields
  pub overrides : List RequirementFields
  pub environments : List Formula
  pub mode : Mode
  pub prereleases : Prereleases
  pub strategy : Strategy

-- what a file asks of the resolver, with what was read of sources, lists, environments and words
abbrev pub settings_with : List (Named (List SourceFields)) → List RequirementFields × List RequirementFields × List RequirementFields → List Formula → Mode × Prereleases × Strategy → SettingsFields
settings_with sources listed environments choices = record {
  sources = sources;
  constraints = listed.0;
  overrides = listed.1;
  environments = environments;
  mode = choices.0;
  prereleases = choices.1;
  strategy = choices.2;
}

-- the requirements of the group `dev`, and what is asked of the resolver, for a project of these extras
unfoldable pub settings_in : Profile → List (List ℕ) → Members → Reading (List RequirementFields × SettingsFields)
settings_in profile extras document = do
  uv ← uv_at document
  sources ← sources_in profile uv
  listed ← listed_in profile extras uv
  environments ← environments_at (get_member (codes "environments") uv)
  choices ← choices_in profile uv
  Ok (listed.2, settings_with sources listed environments choices)
