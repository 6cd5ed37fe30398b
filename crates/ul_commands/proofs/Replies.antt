-- What is answered to a fork answer, for each thing that is wanted.
use Rattle.std.proofs.Common.{◌≡◌, ℕ, List, Bool, true, false, Vec, Global, Result, Ok, Err, IfOk, refl, subst, sym}
use Rattle.ul_tree.specs.Paths.{is_printable}
use Rattle.ul_algebra.specs.Spelled.{tree_of}
use Rattle.ul_problem.specs.Plain.{Plain as Problem}
use Rattle.ul_problem.specs.declared.step.Step.{Step}
use Rattle.ul_region.specs.Truths.{DiagramMark, PassView}
use Rattle.ul_generations.specs.Generations.{refused_at}
use Rattle.ul_generations.specs.declared.answers.Forked.TheVariants.{Leaves, Refused}
use Rattle.ul_placing.specs.Laws.{EqualProblems}
use Rattle.ul_merge.specs.Views.{ForkLeaf}
use Rattle.ul_forks.specs.Judged.{IsAccepted}
use Rattle.ul_inputs.specs.Inputs.{only}
use Rattle.ul_inputs.specs.Refusals.{Answers}
use Rattle.ul_inputs.specs.Resolutions.{ResolutionFields}
use Rattle.ul_inputs.specs.declared.refusal.Refusal.{Refusal}
use Rattle.ul_answers.specs.Answer as answers
use Rattle.ul_answers.specs.Views.{view as answer_view}
use Rattle.ul_answers.specs.declared.answer.Answer.{Answer}
use Rattle.ul_commands.specs.Forking.{AreForksOf, IsForkRefusal}
use Rattle.ul_commands.specs.Locking.{RefusedWhere}
use Rattle.ul_commands.specs.Questions.{IsProblemIn, question_of}
use Rattle.ul_commands.specs.Reasons.{DerivedWhere}
use Rattle.ul_commands.specs.Wanted.{AreLines, AreLinesOf, IsAnswerFor, refused_with}
use Rattle.ul_commands.specs.declared.wanted.Wanted.{Wanted}
use Rattle.ul_commands.specs.declared.wanted.Wanted.TheVariants.{Lock, Reason}
use Rattle.ul_commands.proofs.Accepted.{core_here, lines_here}
use Rattle.ul_commands.proofs.ForkAnswers.{lock_refused, none_refused_answer, why_refused}
use Rattle.ul_commands.proofs.Mergeable.{refused_answer}

-- the lines of a region's problem are the region's
pub lines_of : (w : Wanted) → EqualProblems → (r : ResolutionFields) (region : DiagramMark) (steps : List Step) (p : Problem)
    → IsAccepted (question_of r) region steps → IsProblemIn r (tree_of region) p → {E : Type 0} (out : Result (Vec ℕ Global) E)
    → IfOk out (λ v. AreLines w p steps v.items) → IfOk out (λ v. AreLinesOf w r (tree_of region) v.items)
lines_of Lock equal r region steps p found is out h = core_here r (tree_of region) p out is h
lines_of Reason equal r region steps p found is out h = lines_here equal r region steps p found is out h

-- the answer to a refused fork
pub refused_answered : (w : Wanted) (r : ResolutionFields) (h : PassView) (path : List Bool) (region : DiagramMark) (steps : List Step)
    (lines : List ℕ) → AreForksOf r h (Refused path region steps) → is_printable (tree_of region) ≡ true → AreLinesOf w r (tree_of region) lines
    → IsAnswerFor w r (Ok (refused_with w path (tree_of region) lines))
refused_answered Lock r h path region steps lines forks printable are = refused_answer r h path region steps lines forks printable are
refused_answered Reason r h path region steps lines forks printable are = record {
  forked = refused_at (record { path = path; region = tree_of region; refusal = tt });
  are_forks = forks.is_answer;
  gives = subst (λ b. DerivedWhere b r (record { path = path; region = tree_of region; refusal = tt }) (Ok (answers.derived path (tree_of region) lines)))
      (sym printable) (record { lines = lines; steps = are; is = refl });
}

-- or isn't told, where its region isn't printable
pub untold_answered : (w : Wanted) (r : ResolutionFields) (h : PassView) (path : List Bool) (region : DiagramMark) (steps : List Step)
    → AreForksOf r h (Refused path region steps) → is_printable (tree_of region) ≡ false → IsAnswerFor w r (Ok answers.untold)
untold_answered Lock r h path region steps forks printable = record {
  forked = refused_at (record { path = path; region = tree_of region; refusal = tt });
  are_forks = forks.is_answer;
  locks = subst (λ b. RefusedWhere b r (record { path = path; region = tree_of region; refusal = tt }) (Ok answers.untold)) (sym printable) refl;
}
untold_answered Reason r h path region steps forks printable = record {
  forked = refused_at (record { path = path; region = tree_of region; refusal = tt });
  are_forks = forks.is_answer;
  gives = subst (λ b. DerivedWhere b r (record { path = path; region = tree_of region; refusal = tt }) (Ok answers.untold)) (sym printable) refl;
}

-- the refusal of the forks
pub refused_forks : (w : Wanted) (r : ResolutionFields) (e : Refusal) → IsForkRefusal r e → Answers {T = Answer} answer_view (Err e) (only (IsAnswerFor w r))
refused_forks Lock r e h = lock_refused r e h
refused_forks Reason r e h = why_refused r e h
