-- Where the project's requirements on each name stand.
use Rattle.std.specs.Prelude.{◌≡◌, ◌+◌, ◌≤◌, ℕ, List, Option, Some, None, bytes_eq, drop, filter, get_or, length}
use Rattle.std.specs.HashMap.{get}
use Rattle.std.specs.List.{slice_get}
use Rattle.ul_requirement.specs.Fields.{RequirementFields}
use Rattle.ul_index.specs.Eligible.{on_name}
use Rattle.ul_index.specs.declared.direct_index.DirectIndex.{DirectIndex}

-- the requirements on a name from a place on
abbrev pub on_from : List RequirementFields → List ℕ → ℕ → List RequirementFields
on_from qs n i = filter (on_name n) (drop i qs)

-- a place, and where there is none the end of the list
abbrev pub place_or : ℕ → Option ℕ → ℕ
place_or end None = end
place_or end (Some i) = i

-- from the second place on there are the requirements on the name that there are from the first one on
abbrev pub IsSkip : List RequirementFields → List ℕ → ℕ → ℕ → Type 0
IsSkip qs n i j = on_from qs n i ≡ on_from qs n j

-- of each place from one on, where to go on for the same name
abbrev pub AreNextFrom : ℕ → List RequirementFields → List ℕ → Type 0
AreNextFrom i qs next =
    (k : ℕ) → (q : RequirementFields) → i ≤ k → slice_get qs k ≡ Some q → IsSkip qs q.name (k + 1) (get_or next k 0)

-- of each name where its requirements begin, and of each place where to go on for the same name
pub record IsDirectIndex (qs : List RequirementFields) (index : DirectIndex) : Type 0 where
  pub first : (n : List ℕ) → IsSkip qs n 0 (place_or (length qs) (get bytes_eq index.first n))
  pub next : AreNextFrom 0 qs index.next.items
  pub size : length index.next.items ≡ length qs
