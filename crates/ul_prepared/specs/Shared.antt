-- What the nodes of a name share, and the rows of one node.
use Rattle.std.specs.Prelude.{◌≡◌, ◌<◌, ℕ, List, All, Some, map, slice_get}
use Rattle.ul_requirement.specs.Fields.{ReleaseFields, RequirementFields}
use Rattle.ul_index.specs.Catalogs.{is_release_fit}
use Rattle.ul_region.specs.Truths.{DiagramMark, IsTruthAt, PassView}
use Rattle.ul_region.specs.declared.rows.Asked.{Asked}
use Rattle.ul_region.specs.declared.rows.Row.{Row}
use Rattle.ul_prepared.specs.declared.shared.Fitted.{Fitted}
use Rattle.ul_prepared.specs.declared.shared.Shared.{Shared}

-- a release with the place of where it is fit, among truths
abbrev pub IsFitted : PassView → List DiagramMark → Fitted → Type 0
IsFitted h truths f = IsTruthAt h truths f.fit (is_release_fit f.release.now)

-- the requirements of the release stand at its place among lists
abbrev pub HasList : List (List RequirementFields) → Fitted → Type 0
HasList lists f = slice_get lists f.list ≡ Some f.release.now.requirements

-- the place of a release's list is one of so many
abbrev pub IsPlaced : ℕ → Fitted → Type 0
IsPlaced count f = f.list < count

-- what the nodes of a name share: where each release is fit, and where its requirements stand among the lists
pub record IsShared (h : PassView) (truths : List DiagramMark) (s : Shared) : Type 0 where
  pub fitted : All (IsFitted h truths) s.releases.items
  pub listed : All (HasList s.lists.items) s.releases.items

-- the place of a release's list
abbrev pub list_in : Fitted → ℕ
list_in f = f.list

-- a release, and the place of its list
abbrev pub fitted_in : Fitted → ReleaseFields × ℕ
fitted_in f = (f.release.now, f.list)

-- the release that is shared
abbrev pub release_fitted : Fitted → ReleaseFields
release_fitted f = f.release.now

-- the releases that are shared, in the order of their versions
abbrev pub releases_shared : Shared → List ReleaseFields
releases_shared s = map release_fitted s.releases.items

-- the lists of requirements that are shared
abbrev pub lists_shared : Shared → List (List RequirementFields)
lists_shared s = s.lists.items

-- the row of a release has what a node asks of the release's list
pub record IsRowOf (lists : List (List Asked)) (f : Fitted) (row : Row) : Type 0 where
  pub release : row.release.now ≡ f.release.now
  pub fit : row.fit ≡ f.fit
  pub asked : slice_get lists f.list ≡ Some row.asked

-- what stands at the place of a release's list
abbrev pub IsOfList : {A : Type 0} → List A → Fitted → A → Type 0
IsOfList lists f one = slice_get lists f.list ≡ Some one
