-- What the judge of a derivation answers, as the answer of `check`.
use Rattle.std.proofs.Common.{◌≡◌, ℕ, Result, Ok, Err, IfOk, refl, inl, inr}
use Rattle.std.specs.declared.alloc.AllocError.{AllocError}
use Rattle.ul_derivation.specs.declared.accept.AcceptFault.{AcceptFault}
use Rattle.ul_derivation.specs.declared.accept.AcceptFault.TheVariants.{StepFault, NoMemory}
use Rattle.ul_problem.specs.Plain.{Plain as Problem}
use Rattle.ul_report_judge.specs.Headline.{IsJudgedByNames}
use Rattle.ul_report_read.specs.declared.proof.Proof.{Proof}
use Rattle.ul_inputs.specs.Resolutions.{ResolutionFields}
use Rattle.ul_answers.specs.Views.{view}
use Rattle.ul_answers.specs.declared.answer.Answer.{Answer}
use Rattle.ul_commands.specs.Checking.{IsCheckAnswer, answer_of}
use Rattle.ul_commands.specs.Questions.{IsProblemIn}

-- each judgement of the code on the problem of a derivation's region gives an answer of `check`, or want of memory
pub judged_answer : (r : ResolutionFields) (x : Proof) (p : Problem) (judgement : Result (Unit {0}) AcceptFault) (out : Result Answer AllocError)
    → IsProblemIn r x.region p → IsJudgedByNames p x.steps judgement → out ≡ answer_of judgement → IfOk out (λ a. IsCheckAnswer r x (Ok (view a)))
judged_answer r x p (Ok done) out of h is = rw is (inl (record { problem = p; of_region = of; accepts = h.accepted; is = refl }))
judged_answer r x p (Err (StepFault k)) out of h is = rw is (inr (record { problem = p; of_region = of; step = k; first = h.fault; is = refl }))
judged_answer r x p (Err NoMemory) out of h is = rw is tt
