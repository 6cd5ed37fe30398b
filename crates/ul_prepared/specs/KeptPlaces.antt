-- Where names stand in an old lock.
use Rattle.std.specs.Prelude.{◌≡◌, ◌<◌, ℕ, zero, suc, List, [], Bool, true, false, cond, Option, Some, None, bytes_eq, length, map, slice_get}
use Rattle.std.specs.HashMap.{HashMap, get}
use Rattle.ul_version.specs.Fields.{Fields}
use Rattle.ul_prepared.specs.Orders.{places_below}

-- names and versions of an old lock
abbrev pub Kept : Type 0
Kept = List (List ℕ × Fields)

-- whether one of an old lock is on a name
abbrev pub is_on : List ℕ → List ℕ × Fields → Bool
is_on n k = bytes_eq k.0 n

-- whether there is one, and on the name
abbrev pub is_there_on : List ℕ → Option (List ℕ × Fields) → Bool
is_there_on n None = false
is_there_on n (Some k) = is_on n k

-- the name of one, and none where there is none
abbrev pub name_in : Option (List ℕ × Fields) → List ℕ
name_in None = []
name_in (Some k) = k.0

-- the last place of a name below a place
abbrev pub last_on : Kept → List ℕ → ℕ → Option ℕ
last_on kept n zero = None
last_on kept n (suc i) = cond (is_there_on n (slice_get kept i)) (Some i) (last_on kept n i)

-- the last place below a place that has the same name
abbrev pub last_before : Kept → ℕ → Option ℕ
last_before kept i = last_on kept (name_in (slice_get kept i)) i

-- of each name its last place below a place
abbrev pub AreLastPlaces : {S : Type 0} → Kept → ℕ → HashMap (List ℕ) ℕ S → Type 0
AreLastPlaces kept i last = (n : List ℕ) → get bytes_eq last n ≡ last_on kept n i

-- of each name its last place, and of each place the one before it that has the same name
pub record IsIndexed {S : Type 0} (kept : Kept) (lasts : HashMap (List ℕ) ℕ S) (befores : List (Option ℕ)) : Type 0 where
  pub last : AreLastPlaces kept (length kept) lasts
  pub before : befores ≡ map (last_before kept) (places_below (length kept))

-- the place has the name, if there is a place
abbrev pub HasNameAt : Kept → List ℕ → Option ℕ → Type 0
HasNameAt kept n None = Unit {0}
HasNameAt kept n (Some i) = (i < length kept) × (is_there_on n (slice_get kept i) ≡ true)
