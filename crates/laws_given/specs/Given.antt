-- What files give is a resolution, with names and versions.
use Rattle.std.specs.Prelude.{◌≡◌, ℕ, List, Contains, IfSome, Option, Ok}
use Rattle.ul_files.specs.Files.{FileMap}
use Rattle.ul_base.specs.Names.{IsNormalName}
use Rattle.ul_base.specs.declared.node.Node.{Node}
use Rattle.ul_version.specs.Fields.{Fields, IsVersion}
use Rattle.ul_requirement.specs.Fields.{RequirementFields}
use Rattle.ul_requirement.specs.Truth.{targets}
use Rattle.ul_index.specs.Catalogs.{Packages, requirements}
use Rattle.ul_index.specs.Eligible.{eligible}
use Rattle.ul_load.specs.Begun.{BeginsWith}
use Rattle.ul_load.specs.Loading.{Beginning, LoadAnswer}
use Rattle.ul_project.specs.Fields.{IsProject, ProjectFields}
use Rattle.ul_project.specs.Headline.{IsSaid}
use Rattle.ul_groups.specs.Expanded.{expanded_project}
use Rattle.ul_sound.specs.Headline.{HasRightFiles}
use Rattle.ul_inputs.specs.Catalogs.{BeginsAdjusted}
use Rattle.ul_inputs.specs.Resolutions.{HasUsable, IsResolution, ResolutionFields, resolution_in}

-- the project's package stands first in what is loaded
abbrev pub LoadedBegins : Type 0
LoadedBegins = (m : FileMap) (folder : List ℕ) (b : Beginning) (c : Packages) → LoadAnswer m folder b (Ok c) → BeginsWith b.project c

-- a project that bytes say, with its groups as extras, is one, and its one release isn't yanked
abbrev pub SaidIsProject : Type 0
SaidIsProject = (bytes : List ℕ) (p q : ProjectFields) → IsSaid bytes p → expanded_project p ≡ Ok q
    → IsProject q × HasUsable q.package

-- what files give is a resolution
abbrev pub GivenIsResolution : Type 0
GivenIsResolution = (project folder : List ℕ) (old : Option (List ℕ)) (m : FileMap) (r : ResolutionFields)
    → (resolution_in project folder old m).gives (Ok r) → IsResolution r

-- its catalog begins with the project's package, adjusted, which has one release
pub record BeginsWithProject (r : ResolutionFields) : Type 0 where
  pub begins : BeginsAdjusted r.project r.catalog
  pub usable : HasUsable r.project.package

-- what files give begins so
abbrev pub GivenBegins : Type 0
GivenBegins = (project folder : List ℕ) (old : Option (List ℕ)) (m : FileMap) (r : ResolutionFields)
    → (resolution_in project folder old m).gives (Ok r) → BeginsWithProject r

-- what a resolution names are names in their normal form, its versions are versions, and its releases have files as documents
-- have them
pub record HasTexts (r : ResolutionFields) : Type 0 where
  pub project : IsNormalName r.project.package.name
  pub extras : (x : List ℕ) → Contains r.project.extras x → IsNormalName x
  pub versions : (name : List ℕ) (v : Fields) → Contains (eligible r.catalog name) v → IsVersion v
  pub nodes : (name : List ℕ) (v : Fields) (q : RequirementFields) (t : Node)
      → Contains (requirements r.catalog name v) q → Contains (targets q) t → IsNormalName t.name × IfSome t.extra IsNormalName
  pub files : HasRightFiles r.catalog

-- what files give has them
abbrev pub GivenHasTexts : Type 0
GivenHasTexts = (project folder : List ℕ) (old : Option (List ℕ)) (m : FileMap) (r : ResolutionFields)
    → (resolution_in project folder old m).gives (Ok r) → HasTexts r
