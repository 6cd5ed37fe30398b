-- What acceptance and a first bad step mean.
use Rattle.std.specs.Prelude.{◌≡◌, ℕ, List}
use Rattle.ul_problem.specs.Plain.{Plain}
use Rattle.ul_problem.specs.Problems.{IsWellFormed}
use Rattle.ul_problem.specs.Serving.{HasNone}
use Rattle.ul_problem.specs.Steps.{Accepts}
use Rattle.ul_problem.specs.declared.step.Step.{Step}
use Rattle.ul_derivation.specs.Faults.{IsFirstBad}

-- where a derivation is accepted, nothing serves
abbrev pub AcceptedLaw : Type 0
AcceptedLaw = (p : Plain) (steps : List Step) → IsWellFormed p → Accepts p steps → HasNone p

-- there is at most one first bad step
abbrev pub FaultIsOne : Type 0
FaultIsOne = (p : Plain) (steps : List Step) (j k : ℕ) → IsFirstBad p steps j → IsFirstBad p steps k → j ≡ k

-- an accepted derivation has no bad step
abbrev pub FaultRefuses : Type 0
FaultRefuses = (p : Plain) (steps : List Step) (k : ℕ) → IsFirstBad p steps k → Accepts p steps → ⊥
