-- What `why` answers: that no fork is refused, or the fork that no selection serves with a derivation that is accepted,
-- unless its region isn't printable.
use Rattle.std.specs.Prelude.{◌≡◌, ℕ, List, Bool, true, false, Result, Ok, Err}
use Rattle.ul_nodes.specs.Plain.{Plain}
use Rattle.ul_tree.specs.Paths.{is_printable}
use Rattle.ul_problem.specs.Plain.{Plain as Problem}
use Rattle.ul_problem.specs.Steps.{Accepts}
use Rattle.ul_problem.specs.declared.step.Step.{Step}
use Rattle.ul_generations.specs.Generations.{leaves_are, refused_at, too_many}
use Rattle.ul_forks.specs.Headline.{TreeAnswer, TreeRefusal}
use Rattle.ul_report.specs.Naming.{named_steps}
use Rattle.ul_report.specs.Texts.{steps_text}
use Rattle.ul_inputs.specs.Refused.{Refused}
use Rattle.ul_inputs.specs.Resolutions.{ResolutionFields}
use Rattle.ul_answers.specs.Answer.{Answer, derived, none_refused, untold}
use Rattle.ul_commands.specs.Questions.{IsForked, IsProblemIn, too_many_forks}

-- the lines of a derivation that the problem of a region accepts
pub record AreStepsOf (r : ResolutionFields) (region : Plain) (lines : List ℕ) : Type 0 where
  pub problem : Problem
  pub of_region : IsProblemIn r region problem
  pub steps : List Step
  pub accepted : Accepts problem steps
  pub are : lines ≡ steps_text (named_steps problem steps)

-- a fork with the lines of a derivation
pub record IsDerived (r : ResolutionFields) (fork : TreeRefusal) (a : Result Answer Refused) : Type 0 where
  pub lines : List ℕ
  pub steps : AreStepsOf r fork.region lines
  pub is : a ≡ Ok (derived fork.path fork.region lines)

-- such a fork, which is told where its region is printable
abbrev pub DerivedWhere : Bool → ResolutionFields → TreeRefusal → Result Answer Refused → Type 0
DerivedWhere true r fork a = IsDerived r fork a
DerivedWhere false r fork a = a ≡ Ok untold

-- the answer to a fork answer
abbrev pub GivesReason : ResolutionFields → TreeAnswer → Result Answer Refused → Type 0
GivesReason r (leaves_are leaves) a = a ≡ Ok none_refused
GivesReason r (refused_at fork) a = DerivedWhere (is_printable fork.region) r fork a
GivesReason r (too_many count) a = a ≡ Err too_many_forks

-- the answer of `why` to a resolution
pub record IsWhyAnswer (r : ResolutionFields) (a : Result Answer Refused) : Type 0 where
  pub forked : TreeAnswer
  pub are_forks : IsForked r forked
  pub gives : GivesReason r forked a
