-- Laws of loading.
use Rattle.std.specs.Prelude.{◌≡◌, ℕ, List, Some}
use Rattle.ul_files.specs.Files.{FileMap}
use Rattle.ul_index.specs.Catalogs.{Packages}
use Rattle.ul_load.specs.Loading.{Beginning, Loads, Traced, load_in}

-- two numbers of turns that suffice give one answer and the same reads
abbrev pub TurnsAgree : Type 0
TurnsAgree = (m : FileMap) (folder : List ℕ) (b : Beginning) (few many : ℕ) (t u : Traced Packages)
    → load_in m folder b few ≡ Some t → load_in m folder b many ≡ Some u → t ≡ u

-- loading ends: some number of turns suffices
abbrev pub LoadingEnds : Type 0
LoadingEnds = (m : FileMap) (folder : List ℕ) (b : Beginning) → (t : Traced Packages) × Loads m folder b t
