-- The steps of a problem that are named in front.
use Rattle.std.specs.Prelude.{◌≡◌, ℕ, ◌+◌, List, [], ◌∷◌, None, Result, Ok, Err, drop, length, nat_eq, take, if◌then◌else◌}
use Rattle.ul_derivation.specs.declared.accept.AcceptFault.{AcceptFault}
use Rattle.ul_derivation.specs.declared.accept.AcceptFault.TheVariants.{StepFault}
use Rattle.ul_problem.specs.Plain.{Plain}
use Rattle.ul_problem.specs.declared.step.Step.{Step}
use Rattle.ul_report.specs.declared.text_steps.TextStep.{TextStep}
use Rattle.ul_report_judge.specs.Names.{HaveSteps, step_of_names}

-- what follows begins with a step that names what the problem hasn't, or nothing follows
abbrev pub IsUnknownNext : Plain → List TextStep → Type 0
IsUnknownNext p [] = Unit {0}
IsUnknownNext p (t ∷ ts) = step_of_names p t ≡ None

-- the steps that are named, up to the first that names what the problem hasn't
pub record IsFrontOf (p : Plain) (texts : List TextStep) (steps : List Step) : Type 0 where
  pub named : HaveSteps p (take (length steps) texts) steps
  pub ended : IsUnknownNext p (drop (length steps) texts)

-- what is said of all texts, where so many in front are named and these are judged so
abbrev pub answer_of : ℕ → List TextStep → Result (Unit {0}) AcceptFault → Result (Unit {0}) AcceptFault
answer_of named texts (Ok _) = if nat_eq named (length texts) then Ok tt else Err (StepFault (named + 1))
answer_of named texts (Err fault) = Err fault
