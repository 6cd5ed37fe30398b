-- Which reads are made: those on record behind the reads of before.
use Rattle.std.specs.Prelude.{◌≡◌, ℕ, List, ◌++◌, map, take}
use Rattle.ul_files.specs.Files.{Read}

-- behind the reads of before stands one of each of these paths, in order, and nothing else
pub record ReadsEach (before now : List Read) (paths : List (List ℕ)) : Type 0 where
  pub reads : List Read
  pub behind : now ≡ before ++ reads
  pub are : map (λ r. r.path) reads ≡ paths

-- behind the reads of before stands one of each of the first of these paths, in order, and nothing else
abbrev pub ReadsFirst : List Read → List Read → List (List ℕ) → Type 0
ReadsFirst before now paths = (count : ℕ) × ReadsEach before now (take count paths)
