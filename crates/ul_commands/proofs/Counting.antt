-- The counts of a generated project's lock.
use Rattle.std.proofs.Common.{◌≡◌, ℕ, List, ◌≤◌, Option, Some, None, IfOk, IfSome, Result, Ok, Err, refl, subst, sym, arith}
use Rattle.ul_inputs.specs.Inputs.{Said, only}
use Rattle.ul_inputs.specs.Refusals.{Answers, Cause}
use Rattle.ul_inputs.specs.declared.refusal.Refusal.{Refusal}
use Rattle.ul_inputs.specs.declared.refusal.Refusal.TheVariants.{Malformed, Limit, ReadFault, NoMemory}
use Rattle.ul_answers.specs.Answer as answer
use Rattle.ul_answers.specs.Views.{view}
use Rattle.ul_answers.specs.declared.answer.Answer.{Answer}
use Rattle.ul_commands.specs.Generating.{IsCounted, counted_for}
use Rattle.ul_commands.specs.Views.{GivesAnswer, IsAnswering, IsSure}

-- an answer with its counts
pub counted_answer : (locks : Said answer.Answer) (a b : Answer) → Answers view (Ok a) locks → (let r : Result answer.Answer _ = Ok (view b) in r) ≡ counted_for (Ok (view a))
    → Answers view (Ok b) (only (IsCounted locks))
counted_answer locks a b h is = record { found = Ok (view a); gave = h; is = is }

-- where no read can fail, none did
pub refusal_sure : (last : Option (List ℕ)) (e : Refusal) → Cause {T = Answer} 0 0 last (Err e) → IsSure (Err e)
refusal_sure last (Malformed file place) h = tt
refusal_sure last (Limit name number) h = tt
refusal_sure last (ReadFault path) h = absurd (omega (arith, h.0))
refusal_sure last NoMemory h = tt

-- a refusal in the place of the counts
pub counted_refusal : (locks : Said answer.Answer) (e : Refusal) → Answers view (Err e) locks → IsSure (Err e)
    → Answers view (Err e) (only (IsCounted locks))
counted_refusal locks (Malformed file place) h s = (record { found = Err _; gave = h.0; is = refl }, tt)
counted_refusal locks (Limit name number) h s = (record { found = Err _; gave = h.0; is = refl }, tt)
counted_refusal locks (ReadFault path) h s = absurd s
counted_refusal locks NoMemory h s = (tt, tt)

-- with counts in the place of a lock an answer isn't that the words aren't a command, where it wasn't
still_answering : (x : answer.Answer) → IsAnswering x → IfOk (counted_for (Ok x)) IsAnswering
still_answering answer.usage h = h
still_answering (answer.locked lock forks) h = tt
still_answering (answer.counted lock forks) h = tt
still_answering answer.unwritten h = tt
still_answering answer.untold h = tt
still_answering (answer.no_selection path region core) h = tt
still_answering (answer.derived path region steps) h = tt
still_answering answer.none_refused h = tt
still_answering (answer.environment text) h = tt
still_answering (answer.exported rows) h = tt
still_answering (answer.canonical text) h = tt
still_answering answer.outside h = tt
still_answering (answer.no_extra name) h = tt
still_answering answer.accepted h = tt
still_answering (answer.rejected step) h = tt
still_answering answer.verified h = tt
still_answering answer.rejected_root h = tt
still_answering answer.rejected_supported h = tt
still_answering (answer.rejected_package name version) h = tt

-- the counts aren't that the words aren't a command
pub counted_answers : (a b : Answer) → IsAnswering (view a) → (let r : Result answer.Answer _ = Ok (view b) in r) ≡ counted_for (Ok (view a)) → IsAnswering (view b)
counted_answers a b h is = subst (λ r. IfOk r IsAnswering) (sym is) (still_answering (view a) h)

-- where no read failed, no count of failed reads rose
pub sure_cause : (n : ℕ) (last : Option (List ℕ)) (r : Result Answer Refusal) → IsSure r → Cause n n last r
sure_cause n last (Ok a) h = refl
sure_cause n last (Err (Malformed file place)) h = refl
sure_cause n last (Err (Limit name number)) h = refl
sure_cause n last (Err (ReadFault path)) h = absurd h
sure_cause n last (Err NoMemory) h = omega arith
