-- Leaves of a resolution: regions, each with its selection, and what they choose.
use Rattle.std.specs.Prelude.{◌≡◌, ℕ, List, ◌∷◌, Contains, map, length, true, Some}
use Rattle.ul_base.specs.declared.node.Node.{Node}
use Rattle.ul_version.specs.Fields.{Fields}
use Rattle.ul_comparison.specs.Worlds.{WorldFields, IsWorld}
use Rattle.ul_requirement.specs.Fields.{PackageFields}
use Rattle.ul_requirement.specs.Truth.{base, with_extra}
use Rattle.ul_nodes.specs.Plain.{Plain}
use Rattle.ul_tree.specs.Regions.{region_of}
use Rattle.ul_index.specs.Regions.{Region}
use Rattle.ul_index.specs.Catalogs.{Packages}
use Rattle.ul_index.specs.Serves.{Selection, choice_of, ServesWhole}
use Rattle.ul_project.specs.Fields.{ProjectFields}

-- a region as a tree, and the selection that was made for it
pub record LeafFields : Type 0 where
  pub region : Plain
  pub picks : Selection

-- the worlds of a leaf
abbrev pub worlds_of : LeafFields → Region
worlds_of l = region_of l.region

-- some leaf chose the node at the version
abbrev pub IsChosen : List LeafFields → Node → Fields → Type 0
IsChosen leaves n v = (l : LeafFields) × Contains leaves l × (choice_of l.picks n ≡ Some v)

-- some leaf chose a node of the name at the version
abbrev pub HasPair : List LeafFields → List ℕ → Fields → Type 0
HasPair leaves name v = (n : Node) × (n.name ≡ name) × IsChosen leaves n v

-- the worlds that a project supports
abbrev pub supported_by : ProjectFields → Region
supported_by p = region_of p.region

-- the project's base and its extras, in order
abbrev pub project_nodes : ProjectFields → List Node
project_nodes p = base p.package.name ∷ map (with_extra p.package.name) p.extras

-- the catalog begins with a package of the name, which has one release
pub record Begins (c : Packages) (name : List ℕ) : Type 0 where
  pub first : PackageFields
  pub rest : Packages
  pub is : c ≡ first ∷ rest
  pub named : first.name ≡ name
  pub one : length first.releases ≡ 1

-- every world of the region is in some leaf's
abbrev pub Cover : Region → List LeafFields → Type 0
Cover S leaves = (w : WorldFields) → IsWorld w → S w ≡ true
    → (l : LeafFields) × Contains leaves l × (worlds_of l w ≡ true)

-- leaves that have a world in common are one
abbrev pub AreApart : List LeafFields → Type 0
AreApart leaves = (w : WorldFields) (k l : LeafFields) → IsWorld w → Contains leaves k → Contains leaves l
    → worlds_of k w ≡ true → worlds_of l w ≡ true → k ≡ l

-- each leaf's selection serves its region whole
abbrev pub ServeWhole : Packages → ProjectFields → List LeafFields → Type 0
ServeWhole c p leaves = (l : LeafFields) → Contains leaves l → ServesWhole c (project_nodes p) (worlds_of l) l.picks
