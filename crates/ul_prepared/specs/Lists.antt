-- The releases of a name, and the lists of requirements that they have.
use Rattle.std.specs.Prelude.{◌≡◌, ℕ, List, [], All, Option, Some, None, map, slice_get}
use Rattle.std.specs.Borrow.{Bor}
use Rattle.ul_requirement.specs.Fields.{ReleaseFields, RequirementFields}
use Rattle.ul_prepared.specs.declared.releases.Listed.{Listed}
use Rattle.ul_prepared.specs.declared.releases.Releases.{Releases}

-- the release that is listed
abbrev pub release_listed : Listed → ReleaseFields
release_listed l = l.release.now

-- a release, and the place of its list
abbrev pub listed_in : Listed → ReleaseFields × ℕ
listed_in l = (l.release.now, l.list)

-- the releases of a name, in the order of its versions
abbrev pub releases_in : Releases → List ReleaseFields
releases_in r = map release_listed r.releases.items

-- lists of requirements that are lent
abbrev pub lists_of : List (Bor (List RequirementFields)) → List (List RequirementFields)
lists_of ls = map (λ l. l.now) ls

-- the lists of requirements that the releases of a name have
abbrev pub lists_in : Releases → List (List RequirementFields)
lists_in r = lists_of r.lists.items

-- the lists that the releases of a name have, if there is one
abbrev pub lists_there : Option Releases → List (List RequirementFields)
lists_there None = []
lists_there (Some r) = lists_in r

-- those of the name at a place
abbrev pub lists_at : List Releases → ℕ → List (List RequirementFields)
lists_at names place = lists_there (slice_get names place)

-- the requirements of the release stand at its place among lists
abbrev pub IsListed : List (List RequirementFields) → Listed → Type 0
IsListed lists l = slice_get lists l.list ≡ Some l.release.now.requirements

-- each release has its requirements among the lists
abbrev pub AreListed : Releases → Type 0
AreListed r = All (IsListed (lists_of r.lists.items)) r.releases.items

-- what stood at a place of the first list stands there in the second
abbrev pub StaysListed : List (List RequirementFields) → List (List RequirementFields) → Type 0
StaysListed before after = (k : ℕ) (qs : List RequirementFields) → slice_get before k ≡ Some qs → slice_get after k ≡ Some qs
