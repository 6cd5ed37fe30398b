-- The main theorem of workers: what the results of one call are, whatever the number of workers and however they take turns.
use Rattle.std.specs.Prelude.{◌≡◌, ℕ, List, length, Some}
use Rattle.std.specs.List.{slice_get}

-- the results of a job on the numbers below a count
pub record AreResults {O : Type 0} (fits : ℕ → O → Type 0) (known : O → Type 0) (count : ℕ) (results : List O) : Type 0 where
  -- each number has a result
  pub len : length results ≡ count
  -- the result at place k is right for k
  pub fits_place : (k : ℕ) (o : O) → slice_get results k ≡ Some o → fits k o
  -- the marks in it are known
  pub all_known : (k : ℕ) (o : O) → slice_get results k ≡ Some o → known o
