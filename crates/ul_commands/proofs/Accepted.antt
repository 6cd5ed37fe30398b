-- The derivation of a refused fork is accepted by the problem of its region, so that it can be printed, and the core found by
-- it.
use Rattle.std.proofs.Common.{◌≡◌, ℕ, List, Vec, Global, Result, Ok, Err, IfOk, refl, subst}
use Rattle.ul_algebra.specs.Spelled.{tree_of}
use Rattle.ul_nodes.specs.Plain.{Plain}
use Rattle.ul_tree.specs.Regions.{region_of}
use Rattle.ul_problem.specs.Plain.{Plain as Problem}
use Rattle.ul_problem.specs.Serving.{HasNone}
use Rattle.ul_problem.specs.Steps.{Accepts}
use Rattle.ul_problem.specs.declared.step.Step.{Step}
use Rattle.ul_derivation.specs.Laws.{AcceptedLaw}
use Rattle.ul_region.specs.Truths.{DiagramMark}
use Rattle.ul_placing.specs.Laws.{EqualProblems}
use Rattle.ul_forks.specs.Judged.{IsAccepted}
use Rattle.ul_forks.specs.Outcome.{starts_of}
use Rattle.ul_report.specs.Laws.{RightHaveNames}
use Rattle.ul_report.specs.Naming.{HaveNames, named_steps}
use Rattle.ul_report.specs.Texts.{steps_text}
use Rattle.ul_inputs.specs.Resolutions.{ResolutionFields}
use Rattle.ul_blame.specs.Texts.{IsCoreText}
use Rattle.ul_commands.specs.Locking.{AreCoreLines}
use Rattle.ul_commands.specs.Questions.{IsProblemIn, question_of}
use Rattle.ul_commands.specs.Reasons.{AreStepsOf}

module _ (equal : EqualProblems) (r : ResolutionFields) (region : DiagramMark) (steps : List Step) (p : Problem)
    (found : IsAccepted (question_of r) region steps) (is : IsProblemIn r (tree_of region) p) where
  pub accepted_here : Accepts p steps
  accepted_here =
      let same : found.0 ≡ p = equal r.catalog (starts_of (question_of r)) r.wish (region_of (tree_of region)) (region_of (tree_of region)) found.0 p (λ w h. refl) found.1 is in
      subst (λ z. Accepts z steps) same found.2

  pub names_here : RightHaveNames → HaveNames p steps
  names_here names = names p steps is.well_formed accepted_here.0

  pub lines_here : {E : Type 0} (out : Result (Vec ℕ Global) E) → IfOk out (λ v. v.items ≡ steps_text (named_steps p steps))
      → IfOk out (λ v. AreStepsOf r (tree_of region) v.items)
  lines_here (Ok v) h = record { problem = p; of_region = is; steps = steps; accepted = accepted_here; are = h }
  lines_here (Err e) h = tt

  -- nothing serves the problem
  pub none_here : AcceptedLaw → HasNone p
  none_here law = law p steps is.well_formed accepted_here

-- the text of the core of a region's problem
pub core_here : {E : Type 0} (r : ResolutionFields) (region : Plain) (p : Problem) (out : Result (Vec ℕ Global) E) → IsProblemIn r region p
    → IfOk out (λ v. IsCoreText p v.items) → IfOk out (λ v. AreCoreLines r region v.items)
core_here r region p (Ok v) is h = record { problem = p; of_region = is; text = h }
core_here r region p (Err e) is h = tt
