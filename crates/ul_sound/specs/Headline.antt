-- The main theorem of merged locks.
use Rattle.std.specs.Prelude.{◌≡◌, ◌≢◌, ℕ, List, Contains, Some, IfSome, true, false}
use Rattle.ul_base.specs.Names.{IsNormalName}
use Rattle.ul_base.specs.declared.node.Node.{Node}
use Rattle.ul_version.specs.Fields.{Fields, IsVersion}
use Rattle.ul_comparison.specs.Worlds.{WorldFields, IsWorld}
use Rattle.ul_requirement.specs.Fields.{ReleaseFields, IsFile}
use Rattle.ul_nodes.specs.Plain.{truth}
use Rattle.ul_tree.specs.Regions.{IsRegionTree}
use Rattle.ul_lines.specs.Reader.{Each}
use Rattle.ul_index.specs.Catalogs.{Packages, release_of}
use Rattle.ul_index.specs.Eligible.{eligible}
use Rattle.ul_index.specs.Serves.{choice_of}
use Rattle.ul_project.specs.Fields.{ProjectFields, IsProject}
use Rattle.ul_lock.specs.declared.parts.Lock.{Lock}
use Rattle.ul_lock.specs.declared.parts.Locked.{Locked}
use Rattle.ul_lock.specs.Increasing.{Rising}
use Rattle.ul_lock.specs.Orders.{file_less}
use Rattle.ul_lock.specs.WellFormed.{IsWellFormed}
use Rattle.ul_sound.specs.Leaves.{LeafFields, worlds_of, supported_by, project_nodes, Begins, Cover, AreApart, ServeWhole}
use Rattle.ul_sound.specs.Merged.{IsMergedLock}
use Rattle.ul_sound.specs.Sound.{IsSound}

-- leaves that have no world in common and cover the supported region, each with a selection that serves it whole, of a
-- catalog that begins with the project
pub record AreServed (c : Packages) (p : ProjectFields) (leaves : List LeafFields) : Type 0 where
  pub project : IsProject p
  pub begins : Begins c p.package.name
  pub cover : Cover (supported_by p) leaves
  pub apart : AreApart leaves
  pub whole : ServeWhole c p leaves

-- the texts and versions of what a leaf chose are such
pub record IsPick (n : Node) (v : Fields) : Type 0 where
  pub name : IsNormalName n.name
  pub extra : IfSome n.extra IsNormalName
  pub version : IsVersion v

-- a leaf that can be merged: its region has a world, lies in the supported one and asks for no extra, and its selection
-- has the project's nodes, each node at an eligible version
pub record IsLeafOf (c : Packages) (p : ProjectFields) (l : LeafFields) : Type 0 where
  pub region : IsRegionTree l.region
  pub not_false : l.region ≢ truth false
  pub inside : (w : WorldFields) → IsWorld w → worlds_of l w ≡ true → supported_by p w ≡ true
  pub starts_in : (n : Node) → Contains (project_nodes p) n → (v : Fields) × (choice_of l.picks n ≡ Some v)
  pub eligible_in : (n : Node) (v : Fields) → choice_of l.picks n ≡ Some v → Contains (eligible c n.name) v
  pub picks : (n : Node) (v : Fields) → choice_of l.picks n ≡ Some v → IsPick n v

-- the files of each release are such, and stand in the order of their names, each once
abbrev pub HasRightFiles : Packages → Type 0
HasRightFiles c = (name : List ℕ) (v : Fields) (r : ReleaseFields) → release_of c name v ≡ Some r
    → Each IsFile r.files × Rising file_less r.files

-- one leaf or more that can be merged, of a catalog that begins with the project and has files as documents have them
pub record AreMergeable (c : Packages) (p : ProjectFields) (leaves : List LeafFields) : Type 0 where
  pub project : IsProject p
  pub begins : Begins c p.package.name
  pub extras : (x : List ℕ) → Contains p.extras x → IsNormalName x
  pub some : (l : LeafFields) × Contains leaves l
  pub each : (l : LeafFields) → Contains leaves l → IsLeafOf c p l
  pub files : HasRightFiles c

-- each package has one of its name's eligible versions, spelled as the catalog spells it
abbrev pub HasCatalogTexts : Packages → Lock → Type 0
HasCatalogTexts c l = (b : Locked) → Contains l.packages b → Contains (eligible c b.name) b.version

-- what a merged lock is
pub record MergePromises : Type 0 where
  -- it is right in every world
  pub sound : (c : Packages) (p : ProjectFields) (leaves : List LeafFields) (l : Lock)
      → AreServed c p leaves → IsMergedLock c p leaves l → IsSound c p l
  -- it has each version as the catalog spells it
  pub texts : (c : Packages) (p : ProjectFields) (leaves : List LeafFields) (l : Lock)
      → AreServed c p leaves → IsMergedLock c p leaves l → HasCatalogTexts c l
  -- there is at most one
  pub once : (c : Packages) (p : ProjectFields) (leaves : List LeafFields) (l k : Lock)
      → IsMergedLock c p leaves l → IsMergedLock c p leaves k → l ≡ k
  -- it is well formed
  pub well_formed : (c : Packages) (p : ProjectFields) (leaves : List LeafFields) (l : Lock)
      → AreMergeable c p leaves → IsMergedLock c p leaves l → IsWellFormed l
