-- The project of a project file, with its groups as extras.
use Rattle.std.specs.Prelude.{◌≡◌, ◌⊎◌, ℕ, List, ◌++◌, codes, Option, Some, None, Result, Ok, Err}
use Rattle.ul_project.specs.Fields.{ProjectFields}
use Rattle.ul_project.specs.Headline.{IsSaid, SaysNowhere}
use Rattle.ul_project.specs.Paths.{path_text}
use Rattle.ul_project.specs.ProjectFile.{file_of}
use Rattle.ul_project.specs.Shapes.{Fault, not_toml, requirement_fault, shape, unsupported}
use Rattle.ul_project.specs.declared.fault.ProjectFault.{ProjectFault}
use Rattle.ul_project.specs.declared.fault.ProjectFault.TheVariants.{NotToml, Shape, Requirement, Unsupported, EmptyRegion, NoMemory}
use Rattle.ul_groups.specs.Expanded.{Expanding, expanded_project, refused}
use Rattle.ul_inputs.specs.Inputs.{Input, ◌>>=◌, answer, small_file}
use Rattle.ul_inputs.specs.Refused.{Refused, malformed}

-- the place of a fault, as it is printed
abbrev pub fault_text : Fault → List ℕ
fault_text not_toml = codes "not TOML"
fault_text (shape path) = codes "shape " ++ path_text path
fault_text (requirement_fault path) = codes "requirement " ++ path_text path
fault_text (unsupported path) = codes "unsupported " ++ path_text path

-- what a fault of the code says, if it isn't want of memory
abbrev pub refused_project : List ℕ → ProjectFault → Option Refused
refused_project path NotToml = Some (malformed path (codes "not TOML"))
refused_project path (Shape place) = Some (malformed path (codes "shape " ++ path_text place))
refused_project path (Requirement place) = Some (malformed path (codes "requirement " ++ path_text place))
refused_project path (Unsupported place) = Some (malformed path (codes "unsupported " ++ path_text place))
refused_project path EmptyRegion = Some (malformed path (codes "empty region"))
refused_project path NoMemory = None

-- the bytes are refused at their first fault
pub record HasFault (path bytes : List ℕ) (e : Refused) : Type 0 where
  pub fault : Fault
  pub first : file_of bytes ≡ Err fault
  pub is : e ≡ malformed path (fault_text fault)

-- the bytes say a project that supports no world
pub record HasNoWorld (path bytes : List ℕ) (e : Refused) : Type 0 where
  pub nowhere : SaysNowhere bytes
  pub is : e ≡ malformed path (codes "empty region")

-- the project that bytes say, or their first fault
abbrev pub IsProjectOf : (path bytes : List ℕ) → Result ProjectFields Refused → Type 0
IsProjectOf path bytes (Ok p) = IsSaid bytes p
IsProjectOf path bytes (Err e) = HasFault path bytes e ⊎ HasNoWorld path bytes e

-- the project with its groups as extras, or the first include that is refused
abbrev pub IsExpanded : List ℕ → Expanding ProjectFields → Result ProjectFields Refused → Type 0
IsExpanded path (Ok p) r = r ≡ Ok p
IsExpanded path (Err (refused place)) r = r ≡ Err (malformed path (codes "shape " ++ path_text place))

-- the project of bytes: what they say, with its groups as extras
abbrev pub project_said : (path bytes : List ℕ) → Input ProjectFields
project_said path bytes =
    answer (IsProjectOf path bytes)
    >>= λ p. answer (IsExpanded path (expanded_project p))

-- the project of a project file
abbrev pub project_at : List ℕ → Input ProjectFields
project_at path = small_file path >>= project_said path
