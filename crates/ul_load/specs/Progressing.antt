-- What holds in the midst of loading.
use Rattle.std.specs.Prelude.{◌≡◌, ◌≤◌, ◌<◌, ℕ, ◌+◌, List, ◌++◌, map, take, length, Some}
use Rattle.ul_files.specs.Files.{FileMap}
use Rattle.ul_requirement.specs.Fields.{PackageFields}
use Rattle.ul_index.specs.Catalogs.{BeginsWithOne, Packages, release_count}
use Rattle.ul_load.specs.Loading.{Beginning, Loads, ProgressFields, Traced, load_from, most_packages, most_releases, total_bytes}

-- the packages are those of the first names, the project's first, and no limit is passed
pub record IsProgress (s : ProgressFields) : Type 0 where
  pub names_are : map (λ p. p.name) s.packages ≡ take (length s.packages) s.names
  pub project : BeginsWithOne s.packages
  pub names : length s.names ≤ most_packages
  pub bytes : s.bytes ≤ total_bytes
  pub entries : s.entries ≤ most_releases
  pub releases : release_count s.packages ≤ s.entries + 1

-- there is a name without a package
abbrev pub HasNext : ProgressFields → Type 0
HasNext s = length s.packages < length s.names

-- one package was added
abbrev pub HasOneMore : ProgressFields → ProgressFields → Type 0
HasOneMore before now = length now.packages ≡ length before.packages + 1

-- what is loaded from here on is, behind the paths that were read so far, what is loaded from the project on
pub record IsLoading (m : FileMap) (folder : List ℕ) (b : Beginning) (paths : List (List ℕ)) (s : ProgressFields) : Type 0 where
  pub rest : (turns : ℕ) (t : Traced Packages) → load_from m folder turns s ≡ Some t → Loads m folder b (paths ++ t.0, t.1)

-- the size of a document and its package, which has the name, and the size fits behind documents of so many bytes
pub record IsNextPackage (name : List ℕ) (before : ℕ) (p : ℕ × PackageFields) : Type 0 where
  pub named : p.1.name ≡ name
  pub fits : before + p.0 ≤ total_bytes
  pub few : length p.1.releases ≤ p.1.entries
