-- Marks of nodes, by which a row of needs is tested in one pass.
use Rattle.std.specs.Prelude.{◌≡◌, ℕ, ◌<◌, List, Bool, true, false, Option, Some, None, length, get_or, slice_get}
use Rattle.ul_problem.specs.Plain.{base_in, size_in}
use Rattle.ul_problem.specs.Problems.{HasTarget}
use Rattle.ul_problem.specs.declared.problem.Need.{Need}
use Rattle.ul_problem.specs.declared.problem.NodeFacts.{NodeFacts}

-- there is a mark for each node, and none is set
pub record HasNoMark (size : ℕ) (marks : List Bool) : Type 0 where
  pub long : length marks ≡ size
  pub clear : (n : ℕ) → get_or marks n false ≡ false

-- there is a mark for each node, those that are set are of targets of the needs, and the targets are nodes
pub record AreMarked (size : ℕ) (needs : List Need) (marks : List Bool) : Type 0 where
  pub long : length marks ≡ size
  pub targets : (n : ℕ) → get_or marks n false ≡ true → HasTarget n needs
  pub within : (k : ℕ) (need : Need) → slice_get needs k ≡ Some need → need.node < size

-- a base, where there is one, is marked
abbrev pub IsBaseMarked : List Bool → Option ℕ → Type 0
IsBaseMarked marks None = Unit {0}
IsBaseMarked marks (Some b) = get_or marks b false ≡ true

-- a need is right where the marked nodes are the targets of those before it
abbrev pub IsNeedMarked : List NodeFacts → List Bool → Need → Type 0
IsNeedMarked nodes marks need =
    (need.node < length nodes) × (length need.permitted ≡ size_in (slice_get nodes need.node)) × IsBaseMarked marks (base_in (slice_get nodes need.node))
