-- Laws of judging by names.
use Rattle.std.specs.Prelude.{◌≡◌, ℕ, List, Result, Ok, Err}
use Rattle.ul_derivation.specs.declared.accept.AcceptFault.{AcceptFault}
use Rattle.ul_derivation.specs.declared.accept.AcceptFault.TheVariants.{StepFault, NoMemory}
use Rattle.ul_problem.specs.Plain.{Plain}
use Rattle.ul_problem.specs.Problems.{IsWellFormed}
use Rattle.ul_problem.specs.Steps.{Accepts}
use Rattle.ul_problem.specs.declared.step.Step.{Step}
use Rattle.ul_report.specs.Naming.{named_steps}
use Rattle.ul_report.specs.declared.text_steps.TextStep.{TextStep}
use Rattle.ul_report_judge.specs.Faults.{AcceptsNames, IsFirstBad}
use Rattle.ul_report_judge.specs.Headline.{IsJudgedByNames}

-- an answer that isn't a bad step: acceptance, or want of memory
abbrev pub IsAcceptance : Result (Unit {0}) AcceptFault → Type 0
IsAcceptance (Ok x) = Unit {0}
IsAcceptance (Err (StepFault k)) = ⊥
IsAcceptance (Err NoMemory) = Unit {0}

-- the names of an accepted derivation are accepted, and `judge` accepts them
pub record PrintedIsAccepted : Type 0 where
  pub names : (p : Plain) (steps : List Step) → IsWellFormed p → Accepts p steps → AcceptsNames p (named_steps p steps)
  pub judged : (p : Plain) (steps : List Step) (answer : Result (Unit {0}) AcceptFault) → IsWellFormed p → Accepts p steps
      → IsJudgedByNames p (named_steps p steps) answer → IsAcceptance answer

-- there is at most one first bad step
abbrev pub FaultIsOne : Type 0
FaultIsOne = (p : Plain) (texts : List TextStep) (j k : ℕ) → IsFirstBad p texts j → IsFirstBad p texts k → j ≡ k

-- steps that are accepted have no bad one
abbrev pub FaultRefuses : Type 0
FaultRefuses = (p : Plain) (texts : List TextStep) (k : ℕ) → IsFirstBad p texts k → AcceptsNames p texts → ⊥
