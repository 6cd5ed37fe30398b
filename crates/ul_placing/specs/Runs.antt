-- Runs of neighbouring versions of a node that aim at the same.
use Rattle.std.specs.Prelude.{◌≡◌, ◌<◌, ◌≤◌, ◌-◌, ℕ, List, ◌∷◌, flat_map, length, replicate, slice_get, Some}
use Rattle.ul_problem.specs.declared.problem.Need.{Need}
use Rattle.ul_index.specs.Regions.{Region}
use Rattle.ul_region.specs.declared.rows.Row.{Row}
use Rattle.ul_prepared.specs.declared.prepared.Planned.{Planned}
use Rattle.ul_placing.specs.Aims.{AreFirmNeeds}
use Rattle.ul_placing.specs.declared.aims.NodeAims.{NodeAims}
use Rattle.ul_placing.specs.declared.aims.Run.{Run}

-- the needs of each version of a run
abbrev pub rows_in : Run → List (List Need)
rows_in run = run.needs ∷ replicate run.others run.needs

-- the needs of each version of runs, in order
abbrev pub rows_of : List Run → List (List Need)
rows_of runs = flat_map rows_in runs

-- the needs of each version of a node, in order
abbrev pub versions_in : NodeAims → List (List Need)
versions_in aims = rows_of aims.runs.items

-- the numbers from one to an end are alike
pub record IsStretch (lists : List ℕ) (first end : ℕ) : Type 0 where
  pub begun : first < end
  pub within : end ≤ length lists
  pub same : (k : ℕ) → first ≤ k → k < end → slice_get lists k ≡ slice_get lists first

-- a run has the needs of the first of its versions, and is as long as they are many
pub record IsRunOf (R : Region) (p : Planned) (first end : ℕ) (run : Run) : Type 0 where
  pub count : run.others ≡ end - first - 1
  pub firm : (row : Row) (aims : List (List Need)) → slice_get p.rows.items first ≡ Some row → slice_get p.aims.items first ≡ Some aims
      → AreFirmNeeds R p.node row aims run.needs
