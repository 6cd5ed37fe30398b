-- What is true of each marker that a document's text spells is true of the environments that a project file names.
use Rattle.std.proofs.Common.{◌≡◌, ℕ, List, [], ◌∷◌, Option, Some, None, Ok, subst}
use Rattle.std.specs.Prelude.{codes}
use Rattle.std.specs.List.{AllByRecursion}
use Rattle.toml.specs.Data.{Data, string, array, get_member}
use Rattle.ul_comparison.specs.Formulas.{Formula}
use Rattle.ul_marker.specs.Reading.{marker_of}
use Rattle.ul_project.specs.ProjectFile.{FileFields, file_of}
use Rattle.ul_project.specs.Results.{◌>>=◌, each_from}
use Rattle.ul_project.specs.Settings.{environment_at, environment_of, environment_path, environments_at}
use Rattle.ul_project.specs.Shapes.{Reading, at_key, items_at, shape, text_at}
use Rattle.ul_project.specs.declared.path.ProjectKey.TheVariants as key
use Rattle.ul_project.specs.declared.path.ProjectPath.{ProjectPath}
use Rattle.laws_given.proofs.FileParts.{file_from}
use Rattle.laws_given.proofs.ReadMarkers.{AreMarkers}
use Rattle.laws_given.proofs.Readings.{each_all, same_ok, was_there, went_on}

module _ (M : Formula → Type 0) (law : AreMarkers M) where
  environment_has : (path : ProjectPath) (text : List ℕ) (f : Formula) → environment_of path text ≡ Ok f → M f
  environment_has path text f e = law text f (was_there (shape path) (marker_of text) f e)

  one_has : (i : ℕ) (d : Data) (f : Formula) → environment_at i d ≡ Ok f → M f
  unfolding environment_at
  one_has i d f e =
      let text = went_on (text_at (environment_path i) (Some d)) (environment_of (environment_path i)) f e in
      environment_has (environment_path i) text.0 f text.2

  array_has : (read : Reading (List Data)) (fs : List Formula) → (read >>= each_from environment_at 0) ≡ Ok fs
      → AllByRecursion M fs
  array_has read fs e =
      let items = went_on read (each_from environment_at 0) fs e in
      each_all M environment_at one_has 0 items.0 fs items.2

  environments_have : (value : Option Data) (fs : List Formula) → environments_at value ≡ Ok fs → AllByRecursion M fs
  unfolding environments_at
  environments_have None fs e = subst (λ (x : List Formula). AllByRecursion M x) (same_ok [] fs e) tt
  environments_have (Some (string text)) fs e =
      let one = went_on (environment_of (at_key key.Environments) text) _ fs e in
      subst (λ (x : List Formula). AllByRecursion M x) (same_ok (one.0 ∷ []) fs one.2)
      (environment_has (at_key key.Environments) text one.0 one.1, tt)
  environments_have (Some (array items)) fs e = array_has (items_at (at_key key.Environments) (Some (array items))) fs e
  environments_have (Some other) fs e = array_has (items_at (at_key key.Environments) (Some other)) fs e

  -- the environments of a project file are such
  pub file_environments : (bytes : List ℕ) (f : FileFields) → file_of bytes ≡ Ok f
      → AllByRecursion M f.settings.environments
  file_environments bytes f e =
      let settings = (file_from bytes f e).settings in
      environments_have (get_member (codes "environments") settings.members) f.settings.environments
      settings.environments
