-- Names in their normal form, and versions.
use Rattle.std.specs.Prelude.{◌≡◌, ◌⊎◌, ℕ, List, Contains, IfSome, Ok, Some}
use Rattle.std.specs.List.{AllByRecursion}
use Rattle.ul_files.specs.Files.{FileMap}
use Rattle.ul_base.specs.Names.{IsNormalName}
use Rattle.ul_version.specs.Fields.{Fields, IsVersion}
use Rattle.ul_requirement.specs.Fields.{FilesRise, IsFile, PackageFields, ReleaseFields, RequirementFields}
use Rattle.ul_requirement.specs.Reading.{Reading, by_url, reading_of, requirement}
use Rattle.ul_base.specs.declared.node.Node.{Node}
use Rattle.ul_requirement.specs.Truth.{targets}
use Rattle.ul_index.specs.Catalogs.{Packages, requirements}
use Rattle.ul_index.specs.Eligible.{eligible}
use Rattle.ul_index.specs.Documents.{document_of}
use Rattle.ul_load.specs.Loading.{Beginning, LoadAnswer}
use Rattle.ul_groups.specs.Adjusted.{catalog_for}
use Rattle.ul_groups.specs.Expanded.{expanded_project}
use Rattle.ul_sound.specs.Headline.{HasRightFiles}
use Rattle.ul_project.specs.Fields.{ProjectFields}
use Rattle.ul_project.specs.Groups.{GroupFields}
use Rattle.ul_project.specs.ProjectFile.{FileFields, file_of}
use Rattle.ul_project.specs.declared.group.GroupEntry.{GroupEntry}
use Rattle.ul_project.specs.declared.group.GroupEntry.TheVariants.{Needs, Include}

-- the requirement names names
pub record IsNamedRequirement (q : RequirementFields) : Type 0 where
  pub name : IsNormalName q.name
  pub extras : AllByRecursion IsNormalName q.extras

-- a release with a version, whose requirements name names, and with files in the order of their names
pub record IsTextRelease (r : ReleaseFields) : Type 0 where
  pub version : IsVersion r.version
  pub requirements : AllByRecursion IsNamedRequirement r.requirements
  pub files : AllByRecursion IsFile r.files
  pub files_rise : FilesRise r.files

-- a package with a name, whose releases are such
pub record IsTextPackage (p : PackageFields) : Type 0 where
  pub name : IsNormalName p.name
  pub releases : AllByRecursion IsTextRelease p.releases

-- a reading is a requirement, or one by a URL that requires it
abbrev pub IsRequired : Reading → RequirementFields → Type 0
IsRequired reading q = (reading ≡ requirement q) ⊎ (reading ≡ by_url (Some q))

-- a requirement that is read, by a URL or not, is such
abbrev pub RequirementsAreNamed : Type 0
RequirementsAreNamed = (text : List ℕ) (q : RequirementFields) → IsRequired (reading_of text) q → IsNamedRequirement q

-- a document that is read is such
abbrev pub DocumentsAreTexts : Type 0
DocumentsAreTexts = (name bytes : List ℕ) (p : PackageFields) → IsNormalName name → document_of name bytes ≡ Ok p → IsTextPackage p

-- a catalog that is loaded is such
abbrev pub CatalogsAreTexts : Type 0
CatalogsAreTexts = (m : FileMap) (folder : List ℕ) (b : Beginning) (c : Packages) → IsTextPackage b.project → LoadAnswer m folder b (Ok c)
    → AllByRecursion IsTextPackage c

-- a catalog for a project is such
abbrev pub AdjustedAreTexts : Type 0
AdjustedAreTexts = (p : ProjectFields) (c : Packages) → AllByRecursion IsTextPackage c
    → AllByRecursion IsTextPackage (catalog_for p c)

-- what such a catalog has
pub record HasTextsIn (c : Packages) : Type 0 where
  pub versions : (name : List ℕ) (v : Fields) → Contains (eligible c name) v → IsVersion v
  pub nodes : (name : List ℕ) (v : Fields) (q : RequirementFields) (t : Node)
      → Contains (requirements c name v) q → Contains (targets q) t → IsNormalName t.name × IfSome t.extra IsNormalName
  pub files : HasRightFiles c

-- such a catalog has texts
abbrev pub TextsAreHad : Type 0
TextsAreHad = (c : Packages) → AllByRecursion IsTextPackage c → HasTextsIn c

-- an entry of a group names names
abbrev pub IsTextGroupEntry : GroupEntry → Type 0
IsTextGroupEntry (Needs q) = IsNamedRequirement q
IsTextGroupEntry (Include name) = Unit {0}

-- a group with a name, whose entries are such
pub record IsTextGroup (g : GroupFields) : Type 0 where
  pub name : IsNormalName g.name
  pub entries : AllByRecursion IsTextGroupEntry g.entries

-- a file with a name, a version, and requirements, extras and groups that name names
pub record IsTextFile (f : FileFields) : Type 0 where
  pub name : IsNormalName f.head.name
  pub version : IsVersion f.head.version
  pub requirements : AllByRecursion IsNamedRequirement f.requirements
  pub extras : AllByRecursion IsNormalName f.extras
  pub groups : AllByRecursion IsTextGroup f.groups

-- a project file that is read is such
abbrev pub FilesAreTexts : Type 0
FilesAreTexts = (bytes : List ℕ) (f : FileFields) → file_of bytes ≡ Ok f → IsTextFile f

-- a project with names and versions
pub record IsTextProject (p : ProjectFields) : Type 0 where
  pub «package» : IsTextPackage p.package
  pub extras : AllByRecursion IsNormalName p.extras
  pub groups : AllByRecursion IsTextGroup p.groups

-- a project whose groups are extras is such, where the project was
abbrev pub ExpandedAreTexts : Type 0
ExpandedAreTexts = (p q : ProjectFields) → IsTextProject p → expanded_project p ≡ Ok q → IsTextProject q
