-- What a right step is and says.
use Rattle.std.specs.Prelude.{List, []}
use Rattle.ul_problem.specs.Plain.{Plain}
use Rattle.ul_problem.specs.Problems.{IsWellFormed}
use Rattle.ul_problem.specs.Serving.{Forbids}
use Rattle.ul_problem.specs.Steps.{AreRightAfter, AreTermsOf, IsIncompat, IsRight, IsStepWithin, says}
use Rattle.ul_problem.specs.declared.step.Step.{Step}

-- the places and sets of a right step are the problem's
abbrev pub RightIsWithin : Type 0
RightIsWithin = (p : Plain) (earlier : List Step) (s : Step) → AreRightAfter p [] earlier → IsRight p earlier s → IsStepWithin p s

-- a step within a problem says an incompatibility, with terms of the problem
abbrev pub WithinSays : Type 0
WithinSays = (p : Plain) (s : Step) → IsWellFormed p → IsStepWithin p s → IsIncompat (says p s) × AreTermsOf p (says p s)

-- no serving selection has all that a right step says
abbrev pub RightForbids : Type 0
RightForbids = (p : Plain) (earlier : List Step) (s : Step) → AreRightAfter p [] earlier → IsRight p earlier s → Forbids p (says p s)
