-- What a test asks of a project.
use Rattle.std.specs.Prelude.{◌≡◌, ◌∷◌, [], false}
use Rattle.ul_requirement.specs.Fields.{PackageFields, ReleaseFields}

-- the package has one release, which isn't yanked
pub record HasOne (p : PackageFields) : Type 0 where
  pub release : ReleaseFields
  pub one : p.releases ≡ release ∷ []
  pub usable : release.yanked ≡ false
