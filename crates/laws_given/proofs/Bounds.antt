-- What is true of each requirement that is read is true of the constraints and the overrides of a project file.
use Rattle.std.proofs.Common.{◌≡◌, ℕ, List, Bool, true, false, cond, Option, Ok, Err, subst}
use Rattle.std.specs.Prelude.{codes}
use Rattle.toml.specs.Data.{Data, get_member}
use Rattle.ul_requirement.specs.Fields.{RequirementFields}
use Rattle.ul_project.specs.ProjectFile.{FileFields, file_of}
use Rattle.ul_project.specs.Requirements.{bound_at, bounds_at, requirement_at, speaks_of_extras, without_extras}
use Rattle.ul_project.specs.Results.{each_from}
use Rattle.ul_project.specs.Shapes.{optional_items_at, unsupported}
use Rattle.ul_project.specs.declared.path.Place.{Place}
use Rattle.ul_project.specs.declared.path.Place.TheVariants.{Key}
use Rattle.ul_project.specs.declared.path.ProjectKey.TheVariants as key
use Rattle.ul_project.specs.declared.path.ProjectPath.{ProjectPath}
use Rattle.ul_project.specs.declared.path.ProjectPath.TheVariants.{Whole, Entry}
use Rattle.ul_project.specs.declared.profile.Profile.{Profile}
use Rattle.laws_given.proofs.FileParts.{file_from}
use Rattle.laws_given.proofs.FileRequirements.{AreAll, requirement_has}
use Rattle.laws_given.proofs.ReadRequirements.{AreRead}
use Rattle.laws_given.proofs.Readings.{each_all, same_ok, went_on}

bare_is : (path : ProjectPath) (q p : RequirementFields) → without_extras path q ≡ Ok p → q ≡ p
bare_is path q p e = by_test (speaks_of_extras q) e
  where
    by_test : (b : Bool) → cond b (Err (unsupported path)) (Ok q) ≡ Ok p → q ≡ p
    by_test true e = absurd (cc e)
    by_test false e = same_ok q p e

-- constraints and overrides of a file that are such
pub record HasBounds (P : RequirementFields → Type 0) (f : FileFields) : Type 0 where
  pub constraints : AreAll P f.settings.constraints
  pub overrides : AreAll P f.settings.overrides

module _ (P : RequirementFields → Type 0) (law : AreRead P) where
  bound_has : (profile : Profile) (place : Place) (i : ℕ) (d : Data) (q : RequirementFields)
      → bound_at profile place i d ≡ Ok q → P q
  unfolding bound_at
  bound_has profile place i d q e =
      let read = went_on (requirement_at profile place i d) (without_extras (Entry place i)) q e in
      subst P (bare_is (Entry place i) read.0 q read.2) (requirement_has P law profile place i d read.0 read.1)

  bounds_have : (profile : Profile) (place : Place) (value : Option Data) (qs : List RequirementFields)
      → bounds_at profile place value ≡ Ok qs → AreAll P qs
  unfolding bounds_at
  bounds_have profile place value qs e =
      let items = went_on (optional_items_at (Whole place) value) (each_from (bound_at profile place) 0) qs e in
      each_all P (bound_at profile place) (bound_has profile place) 0 items.0 qs items.2

  -- those of a file that is read are such
  pub file_bounds : (bytes : List ℕ) (f : FileFields) → file_of bytes ≡ Ok f → HasBounds P f
  file_bounds bytes f e =
      let from = file_from bytes f e in
      let settings = from.settings in
      let bounds = get_member (codes "constraint-dependencies") settings.members in
      let others = get_member (codes "override-dependencies") settings.members in
      record {
        constraints =
            bounds_have from.profile (Key key.ConstraintDependencies) bounds f.settings.constraints settings.constraints;
        overrides =
            bounds_have from.profile (Key key.OverrideDependencies) others f.settings.overrides settings.overrides;
      }
