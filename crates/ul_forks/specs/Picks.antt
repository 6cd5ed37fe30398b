-- Picks of a problem by places: as nodes with the rows that all regions share.
use Rattle.std.specs.Prelude.{◌≡◌, ℕ, ◌<◌, List, [], ◌∷◌, Some, length, slice_get}
use Rattle.ul_version.specs.Fields.{Fields}
use Rattle.ul_base.specs.declared.node.Node.{Node}
use Rattle.ul_problem.specs.Plain.{Plain, node_at}
use Rattle.ul_problem.specs.declared.problem.NodeFacts.{NodeFacts}
use Rattle.ul_index.specs.Catalogs.{Packages, release_of}
use Rattle.ul_region.specs.Truths.{DiagramMark, PassView}
use Rattle.ul_region.specs.declared.rows.Row.{Row}
use Rattle.ul_prepared.specs.declared.prepared.Planned.{Planned}
use Rattle.ul_prepared.specs.declared.prepared.Prepared.{Prepared}
use Rattle.ul_split.specs.Answers.{IsChosen}
use Rattle.ul_split.specs.declared.split.Chosen.{Chosen}

-- two lists stand one for one
abbrev pub OneForOne : {A B : Type 0} → (A → B → Type 0) → List A → List B → Type 0
OneForOne IsFor [] [] = Unit {0}
OneForOne IsFor [] (y ∷ ys) = ⊥
OneForOne IsFor (x ∷ xs) [] = ⊥
OneForOne IsFor (x ∷ xs) (y ∷ ys) = IsFor x y × OneForOne IsFor xs ys

-- the pick is of a node of the problem, at one of its versions
pub record HasPick (p : Plain) (pick : ℕ × ℕ) : Type 0 where
  pub facts : NodeFacts
  pub at : node_at p pick.0 ≡ Some facts
  pub within : pick.1 < length facts.versions

-- what is known of a node stands in a list
pub record StandsIn (nodes : List Planned) (n : Node) (planned : Planned) : Type 0 where
  pub place : ℕ
  pub stands : slice_get nodes place ≡ Some planned
  pub node : planned.node ≡ n

-- the row that all regions share of a node's version, by the version's place
pub record HasRowAt (shared : Prepared) (n : Node) (version : ℕ) (row : Row) : Type 0 where
  pub planned : Planned
  pub is : StandsIn shared.nodes.items n planned
  pub at : slice_get planned.rows.items version ≡ Some row

-- the picked node, with the row that all regions share
pub record IsTaken (shared : Prepared) (p : Plain) (pick : ℕ × ℕ) (d : Chosen) : Type 0 where
  pub facts : NodeFacts
  pub at : node_at p pick.0 ≡ Some facts
  pub node : d.node.now ≡ facts.node
  pub row : HasRowAt shared facts.node pick.1 d.row.now

-- the picked node, with the release of the picked version and its row
pub record IsPicked (h : PassView) (c : Packages) (truths : List DiagramMark) (p : Plain) (pick : ℕ × ℕ) (d : Chosen)
    : Type 0 where
  pub facts : NodeFacts
  pub at : node_at p pick.0 ≡ Some facts
  pub version : Fields
  pub stands : slice_get facts.versions pick.1 ≡ Some version
  pub node : d.node.now ≡ facts.node
  pub found : release_of c facts.node.name version ≡ Some d.row.now.release.now
  pub row : IsChosen h truths d
