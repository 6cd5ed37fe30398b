-- A problem that nothing serves has a derivation, and each list of steps is accepted or has a first bad step.
use Rattle.std.specs.Prelude.{◌⊎◌, ℕ, List}
use Rattle.ul_problem.specs.Plain.{Plain}
use Rattle.ul_problem.specs.Problems.{IsWellFormed}
use Rattle.ul_problem.specs.Serving.{HasNone}
use Rattle.ul_problem.specs.Steps.{Accepts}
use Rattle.ul_problem.specs.declared.step.Step.{Step}
use Rattle.ul_report.specs.declared.text_steps.TextStep.{TextStep}
use Rattle.ul_report_judge.specs.Faults.{AcceptsNames, IsFirstBad}

-- the steps are complete: where nothing serves a problem, some derivation of it is accepted
abbrev pub DerivationExists : Type 0
DerivationExists = (p : Plain) → IsWellFormed p → HasNone p → (steps : List Step) × Accepts p steps

-- steps by names are accepted, or one is the first bad one
abbrev pub StepsAreJudged : Type 0
StepsAreJudged = (p : Plain) (texts : List TextStep) → IsWellFormed p
    → AcceptsNames p texts ⊎ ((k : ℕ) × IsFirstBad p texts k)
