-- Where the nodes of a region's problem stand among those that all regions share.
use Rattle.std.specs.Prelude.{◌≡◌, ℕ, List, Some, length, slice_get}
use Rattle.ul_problem.specs.Plain.{Plain, node_at}
use Rattle.ul_problem.specs.declared.problem.NodeFacts.{NodeFacts}
use Rattle.ul_prepared.specs.declared.prepared.Planned.{Planned}
use Rattle.ul_prepared.specs.declared.prepared.Prepared.{Prepared}

-- a node of a problem stands at a place, with a row for each of its versions
pub record StandsAt (all : Prepared) (f : NodeFacts) (place : ℕ) : Type 0 where
  pub planned : Planned
  pub at : slice_get all.nodes.items place ≡ Some planned
  pub node : planned.node ≡ f.node
  pub rows : length planned.rows.items ≡ length f.versions

-- as many places as the problem has nodes: at each stands the problem's node of the same rank
pub record ArePlaced (all : Prepared) (p : Plain) (places : List ℕ) : Type 0 where
  pub count : length places ≡ length p.nodes
  pub each : (k place : ℕ) (f : NodeFacts) → node_at p k ≡ Some f → slice_get places k ≡ Some place → StandsAt all f place
