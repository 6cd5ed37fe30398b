-- Where requirements stand whose markers name an extra.
use Rattle.std.specs.Prelude.{◌≡◌, ◌⊎◌, ◌||◌, ℕ, List, [], Contains, Bool, true, Option, Some, None, Vec, bytes_eq, slice_get}
use Rattle.std.specs.HashMap.{get_by_text}
use Rattle.std.specs.List.Sorted.{IsNonDecreasing}
use Rattle.std.specs.declared.alloc.Global.{Global}
use Rattle.ul_base.specs.declared.node.Node.{Node}
use Rattle.ul_comparison.specs.Truth.{is_empty}
use Rattle.ul_requirement.specs.Fields.{RequirementFields}
use Rattle.ul_requirement.specs.Truth.{marker_names, may_apply}
use Rattle.ul_region.specs.declared.extra_index.ExtraIndex.{ExtraIndex}

-- the places of a list, and none where there is no list
abbrev pub places_in : Option (Vec ℕ Global) → List ℕ
places_in None = []
places_in (Some list) = list.items

-- the places of the list with a number, and none where there is no number
abbrev pub places_with : List (Vec ℕ Global) → Option ℕ → List ℕ
places_with lists None = []
places_with lists (Some number) = places_in (slice_get lists number)

-- the places that an index has of an extra
abbrev pub places_at : ExtraIndex → List ℕ → List ℕ
places_at index x = places_with index.places.items (get_by_text index.numbers x)

-- what the first index has of an extra the second one has
abbrev pub Keeps : ExtraIndex → ExtraIndex → Type 0
Keeps before after = (x : List ℕ) (k : ℕ) → Contains (places_at before x) k → Contains (places_at after x) k

-- the index has the place of an extra, or of the empty one, from which a comparison may tell any extra
abbrev pub IsFound : ExtraIndex → List ℕ → ℕ → Type 0
IsFound index x k = Contains (places_at index x) k ⊎ Contains (places_at index []) k

-- whether a comparison with a literal may tell an extra from the empty one
abbrev pub names : List ℕ → List ℕ → Bool
names literal x = is_empty literal || bytes_eq literal x

-- the second index has what the first one has, and a place of each extra that is named
pub record HasNamed (is_named : List ℕ → Bool) (k : ℕ) (before after : ExtraIndex) : Type 0 where
  pub keeps : Keeps before after
  pub named : (x : List ℕ) → is_named x ≡ true → IsFound after x k

-- of each extra the index has each place of a requirement whose marker names it
abbrev pub IsExtraIndex : List RequirementFields → ExtraIndex → Type 0
IsExtraIndex qs index = (k : ℕ) (q : RequirementFields) (x : List ℕ) → slice_get qs k ≡ Some q → marker_names q.marker x ≡ true → IsFound index x k

-- places that don't fall, among which are all that an index has of an extra
pub record AreCandidates (index : ExtraIndex) (x places : List ℕ) : Type 0 where
  pub rising : IsNonDecreasing places
  pub all : (k : ℕ) → IsFound index x k → Contains places k

-- among the places are those of all requirements that may be true at the node
abbrev pub HaveAll : List RequirementFields → Node → List ℕ → Type 0
HaveAll qs n places = (k : ℕ) (q : RequirementFields) → slice_get qs k ≡ Some q → may_apply q n ≡ true → Contains places k
