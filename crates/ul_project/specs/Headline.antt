-- What the reader of project files answers: the project that the bytes say, with the region of the worlds that it
-- supports, or the first fault. Want of memory says nothing.
use Rattle.std.specs.Prelude.{◌≡◌, ℕ, List, Bool, true, false, Result, Ok, Err}
use Rattle.ul_comparison.specs.Worlds.{WorldFields, IsWorld}
use Rattle.ul_tree.specs.Regions.{HasTruth}
use Rattle.ul_project.specs.Fields.{ProjectFields}
use Rattle.ul_project.specs.ProjectFile.{FileFields, file_of, project_with}
use Rattle.ul_project.specs.Region.{is_supported}
use Rattle.ul_project.specs.Shapes.{not_toml, requirement_fault, shape, unsupported}
use Rattle.ul_project.specs.declared.fault.ProjectFault.{ProjectFault}
use Rattle.ul_project.specs.declared.fault.ProjectFault.TheVariants.{NotToml, Shape, Requirement, Unsupported, EmptyRegion, NoMemory}

-- the worlds that the project of a file supports
abbrev pub supported_by : FileFields → WorldFields → Bool
supported_by file = is_supported file.head.python file.settings.environments

-- the project is that of a file: its region has the truth that the file supports, and holds at some world
pub record IsOf (file : FileFields) (p : ProjectFields) : Type 0 where
  pub fields : p ≡ project_with p.region file
  pub region : HasTruth p.region (supported_by file)
  pub somewhere : (w : WorldFields) × IsWorld w × (supported_by file w ≡ true)

-- the file supports no world
abbrev pub IsNowhere : FileFields → Type 0
IsNowhere file = (w : WorldFields) → IsWorld w → supported_by file w ≡ false

-- the bytes say this project
pub record IsSaid (bytes : List ℕ) (p : ProjectFields) : Type 0 where
  pub file : FileFields
  pub said : file_of bytes ≡ Ok file
  pub project : IsOf file p

-- the bytes say a project that supports no world
pub record SaysNowhere (bytes : List ℕ) : Type 0 where
  pub file : FileFields
  pub said : file_of bytes ≡ Ok file
  pub nowhere : IsNowhere file

-- what the reader answers
abbrev pub IsAnswer : List ℕ → Result ProjectFields ProjectFault → Type 0
IsAnswer bytes (Ok p) = IsSaid bytes p
IsAnswer bytes (Err NotToml) = file_of bytes ≡ Err not_toml
IsAnswer bytes (Err (Shape path)) = file_of bytes ≡ Err (shape path)
IsAnswer bytes (Err (Requirement path)) = file_of bytes ≡ Err (requirement_fault path)
IsAnswer bytes (Err (Unsupported path)) = file_of bytes ≡ Err (unsupported path)
IsAnswer bytes (Err EmptyRegion) = SaysNowhere bytes
IsAnswer bytes (Err NoMemory) = Unit {0}
