-- The parts of a project file that are read by calls of their own.
use Rattle.std.proofs.Common.{◌≡◌, ℕ, List, codes, refl}
use Rattle.std.specs.Prelude.{Ok, Err}
use Rattle.toml.specs.Data.{Members, get_member}
use Rattle.ul_comparison.specs.Formulas.{Formula}
use Rattle.ul_requirement.specs.Fields.{RequirementFields}
use Rattle.ul_requirement.specs.declared.wish.Mode.{Mode}
use Rattle.ul_requirement.specs.declared.wish.Prereleases.{Prereleases}
use Rattle.ul_requirement.specs.declared.wish.Strategy.{Strategy}
use Rattle.ul_project.specs.Head.{HeadFields, head_in}
use Rattle.ul_project.specs.Lists.{Named, names_of}
use Rattle.ul_project.specs.Profiles.{profile_of}
use Rattle.ul_project.specs.ProjectFile.{FileFields, RequiredFields, file_in, file_with, required_in}
use Rattle.ul_project.specs.Results.{◌>>=◌}
use Rattle.ul_project.specs.Settings.{SettingsFields, choices_in, environments_at, listed_in, settings_in, settings_with, sources_in, uv_at}
use Rattle.ul_project.specs.Sources.{SourceFields}
use Rattle.ul_project.specs.Shapes.{Fault, Reading, at_key, table_at}
use Rattle.ul_project.specs.declared.path.ProjectKey.TheVariants as key
use Rattle.ul_project.specs.declared.profile.Profile.{Profile}

-- three lists of requirements
abbrev Listed : Type 0
Listed = List RequirementFields × List RequirementFields × List RequirementFields

-- the sources of names
abbrev Sources : Type 0
Sources = List (Named (List SourceFields))

-- ---- what is asked of the resolver

module _ (profile : Profile) (extras : List (List ℕ)) (document : Members) where
  -- `tool`, `tool.uv` or `tool.unilock` is refused
  pub uv-fault : (f : Fault) → uv_at document ≡ Err f → settings_in profile extras document ≡ Err f
  unfolding settings_in
  uv-fault f e = rw e refl

  -- the sources are refused, or a key that isn't supported says something
  pub sources-fault : (uv : Members) (f : Fault) → uv_at document ≡ Ok uv → sources_in profile uv ≡ Err f → settings_in profile extras document ≡ Err f
  unfolding settings_in
  sources-fault uv f t e = rw (t, e) refl

  -- a list of requirements is refused
  pub listed-fault : (uv : Members) (sources : Sources) (f : Fault) → uv_at document ≡ Ok uv → sources_in profile uv ≡ Ok sources
      → listed_in profile extras uv ≡ Err f → settings_in profile extras document ≡ Err f
  unfolding settings_in
  listed-fault uv sources f t s e = rw (t, s, e) refl

  -- an environment is refused
  pub environments-fault : (uv : Members) (sources : Sources) (listed : Listed) (f : Fault) → uv_at document ≡ Ok uv → sources_in profile uv ≡ Ok sources
      → listed_in profile extras uv ≡ Ok listed → environments_at (get_member (codes "environments") uv) ≡ Err f
      → settings_in profile extras document ≡ Err f
  unfolding settings_in
  environments-fault uv sources listed f t s l e = rw (t, s, l, e) refl

  -- a choice is refused
  pub choices-fault : (uv : Members) (sources : Sources) (listed : Listed) (es : List Formula) (f : Fault) → uv_at document ≡ Ok uv → sources_in profile uv ≡ Ok sources
      → listed_in profile extras uv ≡ Ok listed → environments_at (get_member (codes "environments") uv) ≡ Ok es
      → choices_in profile uv ≡ Err f → settings_in profile extras document ≡ Err f
  unfolding settings_in
  choices-fault uv sources listed es f t s l e c = rw (t, s, l, e, c) refl

  -- all of it is right
  pub settings-all : (uv : Members) (sources : Sources) (listed : Listed) (es : List Formula) (choices : Mode × Prereleases × Strategy) → uv_at document ≡ Ok uv
      → sources_in profile uv ≡ Ok sources → listed_in profile extras uv ≡ Ok listed → environments_at (get_member (codes "environments") uv) ≡ Ok es
      → choices_in profile uv ≡ Ok choices → settings_in profile extras document ≡ Ok (listed.2, settings_with sources listed es choices)
  unfolding settings_in
  settings-all uv sources listed es choices t s l e c = rw (t, s, l, e, c) refl

-- ---- the file

module _ (document project : Members) (head : HeadFields) where
  -- what is required is refused
  pub required-fault : (f : Fault) → table_at (at_key key.Project) (get_member (codes "project") document) ≡ Ok project → head_in project ≡ Ok head
      → required_in (profile_of document) document project ≡ Err f → file_in document ≡ Err f
  unfolding file_in
  required-fault f t h r = rw (t, h, r) refl

  -- what is asked of the resolver is refused
  pub asked-fault : (required : RequiredFields) (f : Fault) → table_at (at_key key.Project) (get_member (codes "project") document) ≡ Ok project
      → head_in project ≡ Ok head → required_in (profile_of document) document project ≡ Ok required
      → settings_in (profile_of document) (names_of required.extras) document ≡ Err f → file_in document ≡ Err f
  unfolding file_in
  asked-fault required f t h r s = rw (t, h, r, s) refl

  -- all of it is right
  pub file-all : (required : RequiredFields) (asked : List RequirementFields × SettingsFields)
      → table_at (at_key key.Project) (get_member (codes "project") document) ≡ Ok project
      → head_in project ≡ Ok head → required_in (profile_of document) document project ≡ Ok required
      → settings_in (profile_of document) (names_of required.extras) document ≡ Ok asked → file_in document ≡ Ok (file_with head required asked)
  unfolding file_in
  file-all required asked t h r s = rw (t, h, r, s) refl
