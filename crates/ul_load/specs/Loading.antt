-- Loading: which index documents are read, in which order, and the catalog that they give, or the first fault.
--
-- The list of names begins with the project's, and has then the names that its requirements ask for, each where it is
-- first met. The document of each name but the project's is read in the order of that list, and the requirements of
-- its usable releases add their names. One definition gives the answer and the paths that are read.
use Rattle.std.specs.Prelude.{◌≡◌, ℕ, zero, suc, ◌+◌, List, [], ◌∷◌, ◌++◌, codes, map, fold, length, get_or, nat_lt, Option, Some, None, option_map, Result, Ok, Err, bytes_eq, if◌then◌else◌, Contains}
use Rattle.std.specs.List.{flat_map}
use Rattle.std.specs.BTreeSet as ordered
use Rattle.indexmap.specs.IndexSet as indexed
use Rattle.ul_files.specs.Files.{FileMap, content}
use Rattle.ul_comparison.specs.Atoms.{AtomFields, atom_cmp}
use Rattle.ul_comparison.specs.Formulas.{Formula}
use Rattle.ul_marker.specs.Parts.{atoms_of}
use Rattle.ul_requirement.specs.Fields.{PackageFields, ReleaseFields, RequirementFields}
use Rattle.ul_requirement.specs.Truth.{atoms_of_requirement}
use Rattle.ul_requirement.specs.declared.wish.Prereleases.TheVariants.{IfNecessaryOrExplicit}
use Rattle.ul_index.specs.Catalogs.{Packages}
use Rattle.ul_index.specs.Documents.{DocumentFault, document_of}

-- ---- limits

-- the most bytes of a document
abbrev pub file_bytes : ℕ
file_bytes = 16777216

-- the most bytes of all documents that are read
abbrev pub total_bytes : ℕ
total_bytes = 268435456

-- the most names that are met, the project's included
abbrev pub most_packages : ℕ
most_packages = 20000

-- the most releases that documents list, unusable ones included
abbrev pub most_releases : ℕ
most_releases = 200000

-- the most different opaque comparisons of the project and of the usable releases
abbrev pub most_comparisons : ℕ
most_comparisons = 256

-- ---- faults and paths

-- why there is no catalog, reads that fail and want of memory aside
pub data Fault : Type 0 where
  document : List ℕ → DocumentFault → Fault
  too_long : List ℕ → Fault
  too_many_bytes : Fault
  too_many_packages : Fault
  too_many_releases : Fault
  too_many_comparisons : Fault

-- what is found, or the fault
abbrev pub Found : Type 0 → Type 0
Found A = Result A Fault

infixl 10 ◌>>=◌
-- what stands first, and then the next, where each is right
abbrev pub ◌>>=◌ : {A B : Type 0} → Found A → (A → Found B) → Found B
(Ok x) >>= f = f x
(Err e) >>= f = Err e

-- the paths that are read, in order, and what is found
abbrev pub Traced : Type 0 → Type 0
Traced A = List (List ℕ) × Found A

-- ---- what is met

-- names, with those of a list that are met for the first time behind them
abbrev pub names_with : List (List ℕ) → List (List ℕ) → List (List ℕ)
names_with = fold (indexed.insert_key bytes_eq)

-- comparisons in their order, each once, with those of a list
abbrev pub comparisons_with : List AtomFields → List AtomFields → List AtomFields
comparisons_with = fold (ordered.insert_key atom_cmp)

-- the names that requirements ask for
abbrev pub names_of : List RequirementFields → List (List ℕ)
names_of = map (λ q. q.name)

-- the opaque comparisons of requirements
abbrev pub atoms_in : List RequirementFields → List AtomFields
atoms_in = flat_map atoms_of_requirement

-- the requirements of releases, in order
abbrev pub requirements_of : List ReleaseFields → List RequirementFields
requirements_of = flat_map (λ r. r.requirements)

-- what loading begins with: the project's package, and the environments, the conditions of its sources, the constraints
-- and the overrides, whose comparisons count as the project's own
pub record Beginning : Type 0 where
  pub project : PackageFields
  pub environments : List Formula
  pub conditions : List Formula
  pub constraints : List RequirementFields
  pub overrides : List RequirementFields

-- the beginning with these
abbrev pub beginning_of : PackageFields → List Formula → List Formula → List RequirementFields → List RequirementFields
    → Beginning
beginning_of project environments conditions constraints overrides = record {
  project = project;
  environments = environments;
  conditions = conditions;
  constraints = constraints;
  overrides = overrides;
}

-- the project's own comparisons
abbrev pub own_atoms : Beginning → List AtomFields
own_atoms b = atoms_in (requirements_of b.project.releases)
    ++ (flat_map atoms_of b.environments
    ++ (flat_map atoms_of b.conditions ++ (atoms_in b.constraints ++ atoms_in b.overrides)))

-- ---- progress

-- what was loaded so far: the names that were met, the packages of the first of them, the bytes of the documents,
-- how many releases they list, and the different comparisons
pub record ProgressFields : Type 0 where
  pub names : List (List ℕ)
  pub packages : Packages
  pub bytes : ℕ
  pub entries : ℕ
  pub comparisons : List AtomFields

-- the limits on names and comparisons, in this order
abbrev pub met_within : ProgressFields → Found ProgressFields
met_within s =
    if nat_lt most_packages (length s.names) then Err too_many_packages
    else (if nat_lt most_comparisons (length s.comparisons) then Err too_many_comparisons else Ok s)

-- the limits on releases, names and comparisons, in this order
abbrev pub within : ProgressFields → Found ProgressFields
within s = if nat_lt most_releases s.entries then Err too_many_releases else met_within s

-- the project alone, whose own release doesn't count among the releases
abbrev pub first_progress : Beginning → ProgressFields
first_progress b = record {
  names = names_with (b.project.name ∷ []) (names_of (requirements_of b.project.releases));
  packages = b.project ∷ [];
  bytes = 0;
  entries = 0;
  comparisons = comparisons_with [] (own_atoms b);
}

-- the next package, whose document has so many bytes
abbrev pub progress_with : ProgressFields → ℕ × PackageFields → ProgressFields
progress_with s p = record {
  names = names_with s.names (names_of (requirements_of p.1.releases));
  packages = s.packages ++ p.1 ∷ [];
  bytes = s.bytes + p.0;
  entries = s.entries + p.1.entries;
  comparisons = comparisons_with s.comparisons (atoms_in (requirements_of p.1.releases));
}

-- ---- documents

-- the path of a name's document
abbrev pub document_path : List ℕ → List ℕ → List ℕ
document_path folder name = folder ++ codes "/" ++ name ++ codes ".json"

-- the bytes of a file that is there, if they aren't too many
abbrev pub file_content : List ℕ → Option (List ℕ) → Found (Option (List ℕ))
file_content path None = Ok None
file_content path (Some bytes) = if nat_lt file_bytes (length bytes) then Err (too_long path) else Ok (Some bytes)

-- a package without releases, since its name has no document; its mode of pre-releases is the usual one, as documents'
abbrev pub no_package : List ℕ → PackageFields
no_package name = record { name = name; entries = 0; prereleases = IfNecessaryOrExplicit; releases = [] }

-- the package that a document at a path is read as
abbrev pub document_answer : List ℕ → Result PackageFields DocumentFault → Found PackageFields
document_answer path (Ok p) = Ok p
document_answer path (Err f) = Err (document path f)

-- the size of a name's document and the package that it is read as, behind documents of so many bytes
abbrev pub package_from : List ℕ → List ℕ → ℕ → Option (List ℕ) → Found (ℕ × PackageFields)
package_from path name before None = Ok (0, no_package name)
package_from path name before (Some bytes) =
    if nat_lt total_bytes (before + length bytes) then Err too_many_bytes
    else document_answer path (document_of name bytes) >>= λ p. Ok (length bytes, p)

-- the size of the document of a name in a folder, and its package
unfoldable pub package_at : FileMap → List ℕ → List ℕ → ℕ → Found (ℕ × PackageFields)
package_at m folder name before =
    file_content (document_path folder name) (content m (document_path folder name))
    >>= package_from (document_path folder name) name before

-- ---- turns

-- the first name that has no package yet
abbrev pub next_name : ProgressFields → List ℕ
next_name s = get_or s.names (length s.packages) []

-- the progress with the package of the next name
abbrev pub next_progress : FileMap → List ℕ → ProgressFields → Found ProgressFields
next_progress m folder s = package_at m folder (next_name s) s.bytes >>= λ p. within (progress_with s p)

-- what is found goes on, a fault ends the loading; the paths of what follows stand behind those that were read
abbrev pub go_on : List (List ℕ) → Found ProgressFields → (ProgressFields → Option (Traced Packages)) → Option (Traced Packages)
go_on paths (Ok s) next = option_map (λ t. (paths ++ t.0, t.1)) (next s)
go_on paths (Err f) next = Some (paths, Err f)

-- What is loaded in so many turns: each turn reads the document of the next name, until each name has its package.
-- None where the turns don't suffice.
abbrev pub load_from : FileMap → List ℕ → ℕ → ProgressFields → Option (Traced Packages)
load_from m folder zero s = None
load_from m folder (suc turns) s =
    if nat_lt (length s.packages) (length s.names)
    then go_on (document_path folder (next_name s) ∷ []) (next_progress m folder s) (load_from m folder turns)
    else Some ([], Ok s.packages)

-- what is loaded in so many turns, from the project on
abbrev pub load_in : FileMap → List ℕ → Beginning → ℕ → Option (Traced Packages)
load_in m folder b turns = go_on [] (within (first_progress b)) (load_from m folder turns)

-- the paths that are read and the catalog, the project first and then the names in the order in which they are met,
-- or the first fault
abbrev pub Loads : FileMap → List ℕ → Beginning → Traced Packages → Type 0
Loads m folder b t = (turns : ℕ) × (load_in m folder b turns ≡ Some t)

-- the answer of loading
abbrev pub LoadAnswer : FileMap → List ℕ → Beginning → Found Packages → Type 0
LoadAnswer m folder b answer = (paths : List (List ℕ)) × Loads m folder b (paths, answer)

-- the path is read in loading, before a fault ends it
abbrev pub IsRead : FileMap → List ℕ → Beginning → List ℕ → Type 0
IsRead m folder b path = (t : Traced Packages) × Loads m folder b t × Contains t.0 path
