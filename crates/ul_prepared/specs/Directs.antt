-- Names that a project requires, in a set.
use Rattle.std.specs.Prelude.{◌≡◌, ℕ, List, bytes_eq}
use Rattle.std.specs.HashSet.{HashSet, contains}
use Rattle.ul_index.specs.Catalogs.{Packages}
use Rattle.ul_index.specs.Preference.{is_direct}

-- the set has those names that the project requires
abbrev pub AreDirects : {S : Type 0} → Packages → HashSet (List ℕ) S → Type 0
AreDirects c names = (n : List ℕ) → contains bytes_eq names n ≡ is_direct c n
