-- Places of releases in the order of their versions.
use Rattle.std.specs.Prelude.{◌≡◌, All, ℕ, List, filter, map, Some}
use Rattle.std.specs.Ordering.{on}
use Rattle.std.specs.declared.cmp.Ordering.{Ordering}
use Rattle.ul_version.specs.Fields.{Fields}
use Rattle.ul_version.specs.Order.{version_cmp}
use Rattle.ul_requirement.specs.Fields.{ReleaseFields, RequirementFields}
use Rattle.ul_requirement.specs.declared.wish.Prereleases.{Prereleases}
use Rattle.ul_index.specs.Eligible.{in_order, passes, takes_pre, version_at}
use Rattle.ul_index.specs.declared.version_order.VersionOrder.{VersionOrder}

-- the order of the versions of places
abbrev pub by_version : Fields × ℕ → Fields × ℕ → Ordering
by_version = on (λ p. p.0) version_cmp

-- the versions and their places, in order
abbrev pub places_in : VersionOrder → List (Fields × ℕ)
places_in order = map (λ k. (k.version.now, k.place)) order.keys.keys

-- the places alone, in order
abbrev pub place_list : VersionOrder → List ℕ
place_list order = map (λ k. k.place) order.keys.keys

-- the place is that of a release with this version
abbrev pub IsPlaceIn : List ReleaseFields → Fields × ℕ → Type 0
IsPlaceIn rs p = version_at rs p.1 ≡ Some p.0

-- the versions of releases that count in a mode, by the direct requirements on their name
abbrev pub passing_versions : Prereleases → List RequirementFields → List ReleaseFields → List Fields
passing_versions mode qs rs = map (λ r. r.version) (filter (passes qs (takes_pre mode qs rs)) rs)

-- the order has the versions of the releases that count, each with its place
pub record IsOrder (mode : Prereleases) (qs : List RequirementFields) (rs : List ReleaseFields) (order : VersionOrder)
    : Type 0 where
  pub versions : map (λ p. p.0) (places_in order) ≡ in_order (passing_versions mode qs rs)
  pub places : All (IsPlaceIn rs) (places_in order)
