-- What may be merged.
use Rattle.std.specs.Prelude.{◌≡◌, ◌≢◌, List, All, Contains, Some, true, false}
use Rattle.ul_base.specs.declared.node.Node.{Node}
use Rattle.ul_version.specs.Fields.{Fields}
use Rattle.ul_comparison.specs.Worlds.{WorldFields, IsWorld}
use Rattle.ul_nodes.specs.Plain.{truth}
use Rattle.ul_tree.specs.Regions.{IsRegionTree}
use Rattle.ul_algebra.specs.Answers.{IsDiagram}
use Rattle.ul_algebra.specs.Spelled.{tree_of}
use Rattle.ul_index.specs.Catalogs.{Packages}
use Rattle.ul_index.specs.Eligible.{eligible}
use Rattle.ul_index.specs.Serves.{choice_of}
use Rattle.ul_project.specs.Fields.{ProjectFields}
use Rattle.ul_region.specs.Truths.{PassView, region_at}
use Rattle.ul_sound.specs.Leaves.{Begins, project_nodes, supported_by}
use Rattle.ul_merge.specs.Views.{ForkLeaf}

-- a leaf that can be merged: its region is known, has a world, lies in the supported one and asks for no extra, and its
-- selection has the project's nodes, each node at an eligible version
pub record IsLeaf (h : PassView) (c : Packages) (p : ProjectFields) (l : ForkLeaf) : Type 0 where
  pub known : IsDiagram h l.region
  pub region : IsRegionTree (tree_of l.region)
  pub not_false : tree_of l.region ≢ truth false
  pub inside : (w : WorldFields) → IsWorld w → region_at l.region w ≡ true → supported_by p w ≡ true
  pub starts_in : (n : Node) → Contains (project_nodes p) n → (v : Fields) × (choice_of l.done.items n ≡ Some v)
  pub eligible_in : (n : Node) (v : Fields) → choice_of l.done.items n ≡ Some v → Contains (eligible c n.name) v

-- leaves that can be merged, of a catalog that begins with the project
pub record AreLeaves (h : PassView) (c : Packages) (p : ProjectFields) (leaves : List ForkLeaf) : Type 0 where
  pub begins : Begins c p.package.name
  pub each : All (IsLeaf h c p) leaves
