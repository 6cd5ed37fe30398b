-- The catalog of a project from its index folder, adjusted by its constraints, overrides and sources, in its mode of
-- pre-releases.
use Rattle.std.specs.Prelude.{◌≡◌, ℕ, List, ◌∷◌, ◌++◌, codes, option_map, Option, Some, None, Result, Ok, Err}
use Rattle.ul_requirement.specs.Fields.{RequirementFields}
use Rattle.ul_index.specs.Catalogs.{Packages}
use Rattle.ul_index.specs.Documents.{DocumentFault, not_json, shape, wrong_name}
use Rattle.ul_index.specs.Places.{place_text}
use Rattle.ul_index.specs.declared.fault.IndexFault.{IndexFault}
use Rattle.ul_index.specs.declared.fault.IndexFault.TheVariants.{NotJson, Shape, WrongName, NoMemory}
use Rattle.ul_project.specs.Fields.{ProjectFields}
-- what loading begins with
pub use Rattle.ul_load.specs.Conditions.{beginning}
use Rattle.ul_load.specs.Loading.{Fault, Found, IsRead, LoadAnswer, document, file_bytes, most_comparisons, most_packages, most_releases, too_long, total_bytes, too_many_bytes, too_many_packages, too_many_releases, too_many_comparisons}
use Rattle.ul_load.specs.Faults.{fault_of}
use Rattle.ul_load.specs.declared.fault.LoadFault.{LoadFault}
use Rattle.ul_load.specs.declared.fault.LoadFault.TheVariants.{Read}
use Rattle.ul_groups.specs.Adjusted.{catalog_for, package_for}
use Rattle.ul_inputs.specs.Inputs.{Input, ◌>>=◌, just}
use Rattle.ul_inputs.specs.Refusals.{IsRefusalFor}
use Rattle.ul_inputs.specs.declared.refusal.Refusal.{Refusal}
use Rattle.ul_inputs.specs.declared.refusal.Refusal.TheVariants.{ReadFault}
use Rattle.ul_inputs.specs.Refused.{Refused, malformed, limit}

-- the place of a document's fault, as it is printed
abbrev pub document_fault_text : DocumentFault → List ℕ
document_fault_text not_json = codes "not JSON"
document_fault_text (shape place) = codes "shape " ++ place_text place
document_fault_text wrong_name = codes "name"

-- a fault of loading, as a refusal
abbrev pub refused_load : Fault → Refused
refused_load (document path fault) = malformed path (document_fault_text fault)
refused_load (too_long path) = limit (codes "file-bytes") file_bytes
refused_load too_many_bytes = limit (codes "total-bytes") total_bytes
refused_load too_many_packages = limit (codes "packages") most_packages
refused_load too_many_releases = limit (codes "releases") most_releases
refused_load too_many_comparisons = limit (codes "comparisons") most_comparisons

-- what a document's fault of the code says, if it isn't want of memory
abbrev pub refused_document : List ℕ → IndexFault → Option Refused
refused_document path NotJson = Some (malformed path (codes "not JSON"))
refused_document path (Shape place) = Some (malformed path (codes "shape " ++ place_text place))
refused_document path WrongName = Some (malformed path (codes "name"))
refused_document path NoMemory = None

-- the refusal says what loading's fault says, with the path of a read that failed
abbrev pub IsLoadRefusal : LoadFault → Refusal → Type 0
IsLoadRefusal (Read path) e = e ≡ ReadFault path
IsLoadRefusal f e = IsRefusalFor (option_map refused_load (fault_of f)) e

-- what is found, or its fault as a refusal
abbrev pub found_or_refused : Found Packages → Result Packages Refused
found_or_refused (Ok c) = Ok c
found_or_refused (Err f) = Err (refused_load f)

-- what loading answers, as a refusal where it is a fault
pub record IsLoaded (answers : Found Packages → Type 0) (r : Result Packages Refused) : Type 0 where
  pub found : Found Packages
  pub answered : answers found
  pub is : r ≡ found_or_refused found

-- the catalog of the documents
abbrev pub documents : List ℕ → ProjectFields → Input Packages
documents folder p m = record {
  gives = IsLoaded (LoadAnswer m folder (beginning p));
  reads = IsRead m folder (beginning p);
}

-- the catalog of the documents, for the project
abbrev pub catalog_in : List ℕ → ProjectFields → Input Packages
catalog_in folder p = documents folder p >>= λ c. just (Ok (catalog_for p c))

-- the catalog begins with the project's package, adjusted, by some constraints that its sources are, and in its mode
pub record BeginsAdjusted (p : ProjectFields) (c : Packages) : Type 0 where
  pub sources : List RequirementFields
  pub others : Packages
  pub is : c ≡ package_for p sources p.package ∷ others
