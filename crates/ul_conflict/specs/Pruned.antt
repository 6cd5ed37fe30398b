-- What is kept of a derivation.
use Rattle.std.specs.Prelude.{◌≡◌, ℕ, suc, List, [], ◌∷◌, ◌++◌, Bool, Some, ◌<◌, slice_get, get_or, length}
use Rattle.ul_problem.specs.Plain.{Plain}
use Rattle.ul_problem.specs.Steps.{says, step_of, AreRightAfter}
use Rattle.ul_problem.specs.declared.step.Step.{Step}
use Rattle.ul_conflict.specs.Needed.{renumbered_step, IsMarked}
use Rattle.ul_conflict.specs.declared.pruning.Pruned.{Pruned}

-- the step at a place is kept under a number: what is kept there says the same
pub record IsKeptAs (p : Plain) (steps kept : List Step) (number place : ℕ) : Type 0 where
  pub step : Step
  pub again : Step
  pub is : slice_get steps place ≡ Some step
  pub at : step_of kept number ≡ Some again
  pub said : says p again ≡ says p step

-- the marked ones of the first steps are kept, under new numbers
pub record IsPruned (p : Plain) (steps : List Step) (marks : List Bool) (kept : List Step) (numbers : List ℕ) : Type 0 where
  pub right : AreRightAfter p [] kept
  pub same : (k : ℕ) → k < length numbers → IsMarked marks k → IsKeptAs p steps kept (get_or numbers k 0) k
  pub end : (k : ℕ) → length numbers ≡ suc k → IsMarked marks k → get_or numbers k 0 ≡ length kept

-- what was pruned so far, as the code has it
abbrev pub IsPrunedTo : Plain → List Step → List Bool → Pruned → Type 0
IsPrunedTo p steps marks r = IsPruned p steps marks r.kept.items r.numbers.items

-- a step is kept under the next number
pub record IsKept (s : Step) (old now : Pruned) : Type 0 where
  pub kept : now.kept.items ≡ old.kept.items ++ renumbered_step old.numbers.items s ∷ []
  pub numbers : now.numbers.items ≡ old.numbers.items ++ length now.kept.items ∷ []
