-- Which nodes of those that all regions share a region reaches, by their places.
use Rattle.std.specs.Prelude.{◌≡◌, ◌⊎◌, ◌<◌, ◌≤◌, ◌+◌, ℕ, List, Bool, true, Option, Some, count_by, map, flat_map, length, slice_get, Contains}
use Rattle.ul_base.specs.Reached.{Reached}
use Rattle.ul_ranges.specs.Flags.{has}
use Rattle.ul_problem.specs.declared.problem.Need.{Need}
use Rattle.ul_index.specs.Regions.{Region}
use Rattle.ul_region.specs.Problem.{Leads}
use Rattle.ul_prepared.specs.declared.prepared.Planned.{Planned}
use Rattle.ul_prepared.specs.declared.prepared.Prepared.{Prepared}
use Rattle.ul_placing.specs.Aims.{AreAimsOf}
use Rattle.ul_placing.specs.Runs.{versions_in}
use Rattle.ul_placing.specs.declared.aims.NodeAims.{NodeAims}
use Rattle.ul_placing.specs.declared.reach.Reach.{Reach}

-- the place that a need aims at
abbrev pub node_of : Need → ℕ
node_of need = need.node

-- the places that the needs of a version aim at
abbrev pub targets_of : List Need → List ℕ
targets_of needs = map node_of needs

-- how many places are marked
abbrev pub mark_count : List Bool → ℕ
mark_count marks = count_by (λ mark. mark) marks

-- Places were marks: those of nodes are marked, and what wasn't marked before stands at the end of the queue, once.
pub record MarksPlaces (places : List ℕ) (before : List Bool) (first : List ℕ) (after : List Bool) (queue : List ℕ) : Type 0 where
  pub long : length after ≡ length before
  pub keeps : (k : ℕ) → has k before ≡ true → has k after ≡ true
  pub front : (j k : ℕ) → slice_get first j ≡ Some k → slice_get queue j ≡ Some k
  pub listed : (k : ℕ) → has k after ≡ true → (has k before ≡ true) ⊎ (Contains places k × Contains queue k)
  pub marked : (k : ℕ) → Contains queue k → Contains first k ⊎ (has k after ≡ true)
  pub all : (k : ℕ) → Contains places k → k < length before → has k after ≡ true
  pub once : length queue + mark_count before ≡ length first + mark_count after

-- the node at a place was looked at, and aims so
abbrev pub IsLookedAt : List (Option NodeAims) → ℕ → NodeAims → Type 0
IsLookedAt aims k a = slice_get aims k ≡ Some (Some a)

-- the node at a place is reached from those that a region starts from
abbrev pub IsNodeReached : Region → Prepared → ℕ → Type 0
IsNodeReached R p k = (planned : Planned) × (slice_get p.nodes.items k ≡ Some planned)
    × Reached (Contains p.starts.now) (Leads p.catalog.now R) planned.node

-- what a node aims at is right
abbrev pub IsAimedRight : Region → Prepared → ℕ → NodeAims → Type 0
IsAimedRight R p k a = (planned : Planned) → slice_get p.nodes.items k ≡ Some planned
    → AreAimsOf R planned (versions_in a)

-- The first ones of the queue were looked at.
pub record IsReachTo (R : Region) (p : Prepared) (step : ℕ) (r : Reach) : Type 0 where
  pub long : length r.marks.items ≡ length p.nodes.items
  pub size : length r.aims.items ≡ length p.nodes.items
  pub once : length r.queue.items ≡ mark_count r.marks.items
  pub within : step ≤ length r.queue.items
  pub marked : (k : ℕ) → Contains r.queue.items k → has k r.marks.items ≡ true
  pub listed : (k : ℕ) → has k r.marks.items ≡ true → Contains r.queue.items k
  pub rooted : (k : ℕ) → Contains p.roots.items k → has k r.marks.items ≡ true
  pub reached : (k : ℕ) → has k r.marks.items ≡ true → IsNodeReached R p k
  pub looked : (j k : ℕ) → j < step → slice_get r.queue.items j ≡ Some k → (a : NodeAims) × IsLookedAt r.aims.items k a
  pub known : (k : ℕ) (a : NodeAims) → IsLookedAt r.aims.items k a → has k r.marks.items ≡ true
  pub right : (k : ℕ) (a : NodeAims) → IsLookedAt r.aims.items k a → IsAimedRight R p k a
  pub closed : (k m : ℕ) (a : NodeAims) → IsLookedAt r.aims.items k a → Contains (flat_map targets_of (versions_in a)) m
      → has m r.marks.items ≡ true

-- The nodes that were looked at are those that are reached: the ones that a region starts from, and all that they aim at.
pub record IsReached (R : Region) (p : Prepared) (aims : List (Option NodeAims)) : Type 0 where
  pub size : length aims ≡ length p.nodes.items
  pub rooted : (k : ℕ) → Contains p.roots.items k → (a : NodeAims) × IsLookedAt aims k a
  pub reached : (k : ℕ) (a : NodeAims) → IsLookedAt aims k a → IsNodeReached R p k
  pub right : (k : ℕ) (a : NodeAims) → IsLookedAt aims k a → IsAimedRight R p k a
  pub closed : (k m : ℕ) (a : NodeAims) → IsLookedAt aims k a → Contains (flat_map targets_of (versions_in a)) m
      → (b : NodeAims) × IsLookedAt aims m b
