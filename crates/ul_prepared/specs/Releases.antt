-- The releases of a name's eligible versions.
use Rattle.std.specs.Prelude.{◌≡◌, ℕ, List, Some, length, slice_get}
use Rattle.ul_version.specs.Fields.{Fields}
use Rattle.ul_requirement.specs.Fields.{ReleaseFields}
use Rattle.ul_index.specs.Catalogs.{Packages, release_of}

-- of each version the release that the catalog has of it
pub record AreReleasesOf (c : Packages) (name : List ℕ) (versions : List Fields) (releases : List ReleaseFields) : Type 0 where
  pub count : length releases ≡ length versions
  pub each : (v : ℕ) (x : Fields) (r : ReleaseFields) → slice_get versions v ≡ Some x → slice_get releases v ≡ Some r → release_of c name x ≡ Some r
