-- The main theorem of judging by names: what `judge` answers, exactly.
use Rattle.std.specs.Prelude.{List, IfErr, IfOk, Result}
use Rattle.ul_derivation.specs.declared.accept.AcceptFault.{AcceptFault}
use Rattle.ul_problem.specs.Plain.{Plain}
use Rattle.ul_problem.specs.Serving.{HasNone}
use Rattle.ul_report.specs.declared.text_steps.TextStep.{TextStep}
use Rattle.ul_report_judge.specs.Faults.{AcceptsNames, IsFault}

-- What an answer on steps by names says: `Ok` that they name steps of the problem that are accepted, so that no selection
-- serves the problem; `Err` where the first bad step is.
pub record IsJudgedByNames (p : Plain) (texts : List TextStep) (answer : Result (Unit {0}) AcceptFault) : Type 0 where
  pub accepted : IfOk answer (λ _. AcceptsNames p texts)
  pub none : IfOk answer (λ _. HasNone p)
  pub fault : IfErr answer (λ e. IsFault p texts e)
