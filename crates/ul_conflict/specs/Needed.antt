-- Which steps a derivation rests on, and their new numbers.
use Rattle.std.specs.Prelude.{◌≡◌, ℕ, zero, suc, List, Bool, true, Some, ◌<◌, ◌≤◌, slice_get, get_or, length}
use Rattle.ul_problem.specs.Plain.{Plain}
use Rattle.ul_problem.specs.Steps.{says, step_of, AreRootTerms}
use Rattle.ul_problem.specs.declared.step.Step.{Step}
use Rattle.ul_problem.specs.declared.step.Step.TheVariants.{Need as NeedStep, Python, Base, Cut}

-- the place is marked
abbrev pub IsMarked : List Bool → ℕ → Type 0
IsMarked marks k = slice_get marks k ≡ Some true

-- marks before a place may have come, and none has gone
pub record HaveGrown (place : ℕ) (old now : List Bool) : Type 0 where
  pub count : length now ≡ length old
  pub more : (k : ℕ) → IsMarked old k → IsMarked now k
  pub late : (k : ℕ) → place ≤ k → IsMarked now k → IsMarked old k

-- the step of a number, where it is before a place, is marked
abbrev pub IsMarkedFor : ℕ → ℕ → List Bool → Type 0
IsMarkedFor place number marks = (k : ℕ) → number ≡ suc k → k < place → IsMarked marks k

-- the steps that a step at a place is made of are marked
abbrev pub AreMarkedFor : ℕ → Step → List Bool → Type 0
AreMarkedFor place (NeedStep n s m w) marks = Unit {0}
AreMarkedFor place (Python n s) marks = Unit {0}
AreMarkedFor place (Base n s) marks = Unit {0}
AreMarkedFor place (Cut i j m ts) marks = IsMarkedFor place i marks × IsMarkedFor place j marks

-- where a place from a first one on is marked, so are the steps that the step there is made of
abbrev pub ArePartsMarked : List Step → ℕ → List Bool → Type 0
ArePartsMarked steps from marks = (k : ℕ) (s : Step) → from ≤ k → IsMarked marks k → slice_get steps k ≡ Some s → AreMarkedFor k s marks

-- the last of so many steps is marked, and with each the steps that it is made of
pub record AreNeeded (steps : List Step) (count : ℕ) (marks : List Bool) : Type 0 where
  pub counted : length marks ≡ count
  pub last : (k : ℕ) → count ≡ suc k → IsMarked marks k
  pub parts : ArePartsMarked steps 0 marks

-- the new number of a step, or 0
abbrev pub new_number : List ℕ → ℕ → ℕ
new_number numbers zero = 0
new_number numbers (suc k) = get_or numbers k 0

-- a step with new numbers
abbrev pub renumbered_step : List ℕ → Step → Step
renumbered_step numbers (NeedStep n s m w) = NeedStep n s m w
renumbered_step numbers (Python n s) = Python n s
renumbered_step numbers (Base n s) = Base n s
renumbered_step numbers (Cut i j m ts) = Cut (new_number numbers i) (new_number numbers j) m ts

-- the step of a number forbids the roots
abbrev pub ClosesAt : Plain → List Step → ℕ → Type 0
ClosesAt p steps number = (s : Step) × (step_of steps number ≡ Some s) × AreRootTerms p (says p s)
