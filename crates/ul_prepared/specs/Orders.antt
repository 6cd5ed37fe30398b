-- Places of versions in the order in which they are tried.
use Rattle.std.specs.Prelude.{ℕ, List, ◌++◌, Bool, false, not, cond, filter, map, reverse, length, get_or}
use Rattle.std.specs.List.{range_with_len}
use Rattle.ul_version.specs.Fields.{Fields}
use Rattle.ul_requirement.specs.Fields.{WishFields}
use Rattle.ul_index.specs.Catalogs.{Packages}
use Rattle.ul_index.specs.Preference.{is_direct, is_kept, is_oldest_first}

-- the places of a list of this size, from the first on
abbrev pub places_below : ℕ → List ℕ
places_below size = range_with_len 0 size

-- the flag at a place
abbrev pub flag_at : List Bool → ℕ → Bool
flag_at flags k = get_or flags k false

-- those with a flag from the last on, then the others, from the first or from the last on
abbrev pub tried_places : List Bool → Bool → List ℕ
tried_places flags oldest = filter (flag_at flags) (reverse (places_below (length flags)))
    ++ filter (λ k. not (flag_at flags k)) (cond oldest (places_below (length flags)) (reverse (places_below (length flags))))

-- the places of a name's versions in the order in which they are tried: those that the old lock has come first
abbrev pub order_in : Packages → WishFields → List ℕ → List Fields → List ℕ
order_in c wish n vs = tried_places (map (is_kept wish n) vs) (is_oldest_first wish.mode (is_direct c n))
