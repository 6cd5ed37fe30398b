-- Which nodes a project starts from.
use Rattle.std.specs.Prelude.{◌≡◌, ℕ, List, [], ◌∷◌, false, map}
use Rattle.std.specs.List.Sorted.{IsStrictlySortedBy}
use Rattle.ul_base.specs.declared.node.Node.{Node}
use Rattle.ul_base.specs.Names.{name_cmp}
use Rattle.ul_requirement.specs.Fields.{PackageFields, ReleaseFields}
use Rattle.ul_requirement.specs.Truth.{base, with_extra}
use Rattle.ul_index.specs.Catalogs.{Packages}

-- The first package has one release, which isn't yanked; what is started from is its base, and then extras of it in order.
pub record IsProjectOf (c : Packages) (starts : List Node) : Type 0 where
  pub project : PackageFields
  pub others : Packages
  pub first : c ≡ project ∷ others
  pub release : ReleaseFields
  pub one : project.releases ≡ release ∷ []
  pub kept : release.yanked ≡ false
  pub extras : List (List ℕ)
  pub increasing : IsStrictlySortedBy name_cmp extras
  pub are : starts ≡ base project.name ∷ map (with_extra project.name) extras
