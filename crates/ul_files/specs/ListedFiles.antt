-- Files of a list, found by an index of their paths.
use Rattle.std.specs.Prelude.{◌≡◌, ℕ, ◌<◌, List, length, slice_index_or, Option, Some, None, Vec, String}
use Rattle.std.specs.HashMap.{HashMap, get_by_text}
use Rattle.std.specs.declared.alloc.Global.{Global}
use Rattle.ul_files.specs.Files.{files_of, content}

-- a place of the list, or none, says what is at a path
abbrev pub SaysAt : List (String Global × Vec ℕ Global) → Option ℕ → Option (List ℕ) → Type 0
SaysAt list None found = found ≡ None
SaysAt list (Some place) found =
    (place < length list) × ((d : String Global × Vec ℕ Global) → found ≡ Some (slice_index_or list place d).1.items)

-- the index has the place of the first pair of each path, and of no other
abbrev pub IsIndex : {S : Type 0} → List (String Global × Vec ℕ Global) → HashMap (String Global) ℕ S → Type 0
IsIndex list places = (path : List ℕ) → SaysAt list (get_by_text places path) (content (files_of list) path)
