-- Where a derivation isn't accepted.
use Rattle.std.specs.Prelude.{◌≡◌, ℕ, ◌+◌, ◌-◌, ◌<◌, List, [], Some, ◌⊎◌, slice_get, take, length}
use Rattle.ul_problem.specs.Plain.{Plain}
use Rattle.ul_problem.specs.Steps.{IsRight, AreRightAfter, ClosesWith}
use Rattle.ul_problem.specs.declared.step.Step.{Step}
use Rattle.ul_derivation.specs.declared.accept.AcceptFault.{AcceptFault}
use Rattle.ul_derivation.specs.declared.accept.AcceptFault.TheVariants.{StepFault, NoMemory}

-- a step that isn't right after those before it
abbrev pub IsBadAt : Plain → List Step → ℕ → Type 0
IsBadAt p steps i = (s : Step) × (slice_get steps i ≡ Some s) × (IsRight p (take i steps) s → ⊥)

-- k, from 1, is the first bad step, or one past the last where all are right and the last doesn't forbid the roots
pub record IsFirstBad (p : Plain) (steps : List Step) (k : ℕ) : Type 0 where
  pub is_number : 0 < k
  pub before : AreRightAfter p [] (take (k - 1) steps)
  pub bad : IsBadAt p steps (k - 1) ⊎ ((k ≡ length steps + 1) × (ClosesWith p steps → ⊥))

-- a fault is at the first bad step; of memory nothing is said
abbrev pub IsFault : Plain → List Step → AcceptFault → Type 0
IsFault p steps (StepFault k) = IsFirstBad p steps k
IsFault p steps NoMemory = Unit {0}
