-- Steps by names that are accepted, and the first that is bad.
use Rattle.std.specs.Prelude.{◌≡◌, ℕ, ◌+◌, List, [], ◌∷◌, ◌++◌, Option, Some, None, length}
use Rattle.ul_derivation.specs.declared.accept.AcceptFault.{AcceptFault}
use Rattle.ul_derivation.specs.declared.accept.AcceptFault.TheVariants.{StepFault, NoMemory}
use Rattle.ul_problem.specs.Plain.{Plain}
use Rattle.ul_problem.specs.Steps.{Accepts, AreRightAfter, ClosesWith, IsRight}
use Rattle.ul_problem.specs.declared.step.Step.{Step}
use Rattle.ul_report.specs.declared.text_steps.TextStep.{TextStep}
use Rattle.ul_report_judge.specs.Names.{HaveSteps, step_of_names}

-- the names are those of steps of the problem, and these are accepted
abbrev pub AcceptsNames : Plain → List TextStep → Type 0
AcceptsNames p texts = (steps : List Step) × HaveSteps p texts steps × Accepts p steps

-- a step that names what the problem hasn't, or isn't right after the earlier ones
abbrev pub IsBad : Plain → List Step → Option Step → Type 0
IsBad p earlier None = Unit {0}
IsBad p earlier (Some s) = IsRight p earlier s → ⊥

-- what follows the earlier steps is bad: the next step, or that there is none
abbrev pub IsBadNext : Plain → List Step → List TextStep → Type 0
IsBadNext p earlier [] = ClosesWith p earlier → ⊥
IsBadNext p earlier (t ∷ ts) = IsBad p earlier (step_of_names p t)

-- k, from 1, is the first step that names what the problem hasn't or isn't right; or one past the last, where all are
-- right and the last doesn't forbid what the roots are, or there is none
pub record IsFirstBad (p : Plain) (texts : List TextStep) (k : ℕ) : Type 0 where
  pub front : List TextStep
  pub rest : List TextStep
  pub whole : texts ≡ front ++ rest
  pub count : k ≡ length front + 1
  pub earlier : List Step
  pub named : HaveSteps p front earlier
  pub right : AreRightAfter p [] earlier
  pub bad : IsBadNext p earlier rest

-- a fault is at the first bad step; of memory nothing is said
abbrev pub IsFault : Plain → List TextStep → AcceptFault → Type 0
IsFault p texts (StepFault k) = IsFirstBad p texts k
IsFault p texts NoMemory = Unit {0}
