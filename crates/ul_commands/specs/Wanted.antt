-- What is wanted of a resolution, its lock or why it has none: how that is asked for, and what is answered.
use Rattle.std.specs.Prelude.{◌≡◌, ℕ, List, Bool, Option, Result}
use Rattle.ul_nodes.specs.Plain.{Plain}
use Rattle.ul_problem.specs.Plain.{Plain as Problem}
use Rattle.ul_problem.specs.declared.step.Step.{Step}
use Rattle.ul_blame.specs.Texts.{IsCoreText}
use Rattle.ul_report.specs.Naming.{named_steps}
use Rattle.ul_report.specs.Texts.{steps_text}
use Rattle.ul_inputs.specs.Refused.{Refused}
use Rattle.ul_inputs.specs.Resolutions.{ResolutionFields}
use Rattle.ul_answers.specs.Answer.{Answer, derived, no_selection}
use Rattle.ul_commands.specs.Asked.{Asked, lock, why}
use Rattle.ul_commands.specs.Locking.{AreCoreLines, IsLockAnswer}
use Rattle.ul_commands.specs.Reasons.{AreStepsOf, IsWhyAnswer}
use Rattle.ul_commands.specs.declared.wanted.Wanted.{Wanted}
use Rattle.ul_commands.specs.declared.wanted.Wanted.TheVariants.{Lock, Reason}

-- how it is asked for
abbrev pub asked_for : Wanted → (project folder : List ℕ) → (workers : ℕ) → (old : Option (List ℕ)) → Asked
asked_for Lock project folder workers old = lock project folder workers old
asked_for Reason project folder workers old = why project folder workers old

-- the answer to a resolution
abbrev pub IsAnswerFor : Wanted → ResolutionFields → Result Answer Refused → Type 0
IsAnswerFor Lock r a = IsLockAnswer r a
IsAnswerFor Reason r a = IsWhyAnswer r a

-- the lines that are told of a problem that nothing serves, by a derivation: those of its core, or of the derivation
abbrev pub AreLines : Wanted → Problem → List Step → List ℕ → Type 0
AreLines Lock p steps lines = IsCoreText p lines
AreLines Reason p steps lines = lines ≡ steps_text (named_steps p steps)

-- the lines that are told of a region that no selection serves
abbrev pub AreLinesOf : Wanted → ResolutionFields → Plain → List ℕ → Type 0
AreLinesOf Lock r region lines = AreCoreLines r region lines
AreLinesOf Reason r region lines = AreStepsOf r region lines

-- the answer that tells a fork that no selection serves, with these lines
abbrev pub refused_with : Wanted → (path : List Bool) → (region : Plain) → (lines : List ℕ) → Answer
refused_with Lock path region lines = no_selection path region lines
refused_with Reason path region lines = derived path region lines
