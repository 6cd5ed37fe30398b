-- The main theorem of the checker.
use Rattle.std.specs.Prelude.{List, IfErr, IfOk, Result}
use Rattle.ul_problem.specs.Plain.{Plain}
use Rattle.ul_problem.specs.Serving.{HasNone}
use Rattle.ul_problem.specs.Steps.{Accepts}
use Rattle.ul_problem.specs.declared.step.Step.{Step}
use Rattle.ul_derivation.specs.Faults.{IsFault}
use Rattle.ul_derivation.specs.declared.accept.AcceptFault.{AcceptFault}

-- What an answer on a derivation says: `Ok` that each step is right and the last forbids the roots, so that no selection serves the
-- problem; `Err` where the first bad step is.
pub record IsJudged (p : Plain) (steps : List Step) (answer : Result (Unit {0}) AcceptFault) : Type 0 where
  pub accepts : IfOk answer (λ _. Accepts p steps)
  pub none : IfOk answer (λ _. HasNone p)
  pub fault : IfErr answer (λ e. IsFault p steps e)
