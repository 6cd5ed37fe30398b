-- Which derivations can be printed.
use Rattle.std.specs.Prelude.{List, []}
use Rattle.ul_problem.specs.Plain.{Plain}
use Rattle.ul_problem.specs.Problems.{IsWellFormed}
use Rattle.ul_problem.specs.Steps.{AreRightAfter}
use Rattle.ul_problem.specs.declared.step.Step.{Step}
use Rattle.ul_report.specs.Naming.{HaveNames}

-- steps that are right one after another have names, so each accepted derivation can be printed
abbrev pub RightHaveNames : Type 0
RightHaveNames = (p : Plain) (steps : List Step) → IsWellFormed p → AreRightAfter p [] steps → HaveNames p steps
