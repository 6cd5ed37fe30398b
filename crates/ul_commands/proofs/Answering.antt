-- No command answers that the words aren't a command; and what is asked for is answered on the resolution that is read.
use Rattle.std.proofs.Common.{◌≡◌, ℕ, List, Bool, true, false, length, Option, Some, None, Result, Ok, Err, inl, inr, subst, sym}
use Rattle.ul_files.specs.Files.{FileMap}
use Rattle.ul_generations.specs.Generations.{leaves_are, refused_at, too_many}
use Rattle.ul_lock.specs.declared.parts.Lock.{Lock}
use Rattle.ul_lock_write.specs.Markers.{first_over, markers_of}
use Rattle.ul_tree.specs.Paths.{is_printable}
use Rattle.ul_comparison.specs.Machines.{MachineFields}
use Rattle.ul_forks.specs.Headline.{TreeAnswer}
use Rattle.ul_report_read.specs.declared.proof.Proof.{Proof}
use Rattle.ul_inputs.specs.Inputs.{answer as answers_with, only, said_on}
use Rattle.ul_inputs.specs.Refused.{Refused}
use Rattle.ul_inputs.specs.Refusals.{Answers}
use Rattle.ul_inputs.specs.Resolutions.{ResolutionFields, resolution_in}
use Rattle.ul_inputs.specs.declared.refusal.Refusal.{Refusal}
use Rattle.ul_answers.specs.Answer as answer
use Rattle.ul_answers.specs.Views.{view}
use Rattle.ul_answers.specs.declared.answer.Answer.{Answer}
use Rattle.ul_commands.specs.Checking.{IsCheckAnswer}
use Rattle.ul_commands.specs.Commands.{command}
use Rattle.ul_lock_commands.specs.Environments.{GivesFor, GivesWhere, IsEnvAnswer}
use Rattle.ul_lock_commands.specs.Exports.{GivesRows, IsExportAnswer}
use Rattle.ul_lock_commands.specs.Words.{first_other}
use Rattle.ul_commands.specs.Locking.{IsLockAnswer, LocksFor}
use Rattle.ul_canonical.specs.Answers.{Refusal as CanonicalRefusal}
use Rattle.ul_commands.specs.Markers.{IsMarkerAnswer, answer_of}
use Rattle.ul_commands.specs.Reasons.{GivesReason, IsWhyAnswer}
use Rattle.ul_commands.specs.Relocking.{IsRelockAnswer, unkept}
use Rattle.ul_commands.specs.Verifying.{IsVerifyAnswer}
use Rattle.ul_commands.specs.Views.{GivesAnswer, IsAnswering}
use Rattle.ul_commands.specs.Wanted.{IsAnswerFor, asked_for}
use Rattle.ul_commands.specs.declared.wanted.Wanted.{Wanted}
use Rattle.ul_commands.specs.declared.wanted.Wanted.TheVariants.{Lock as WantedLock, Reason as WantedReason}
use Rattle.ul_commands.proofs.Written.{fork_answering, lock_answering, ok_same, reason_answering}

-- what is said of an answer, from what is said of the one that it is
answering : (a b : answer.Answer) → (let r : Result answer.Answer Refused = Ok a in r) ≡ Ok b → IsAnswering b → IsAnswering a
answering a b is h = subst IsAnswering (sym (ok_same a b is)) h

by_fork : (r : ResolutionFields) (f : TreeAnswer) (a : answer.Answer) → LocksFor r f (Ok a) → IsAnswering a
by_fork r (leaves_are ls) a h = answering a _ h.is (lock_answering (first_over (markers_of h.lock)) h.lock (length ls))
by_fork r (refused_at fork) a h = fork_answering (is_printable fork.region) r fork a h
by_fork r (too_many n) a h = absurd (cc)

lock_answers : (r : ResolutionFields) (result : Result Answer Refusal) → Answers view result (only (IsLockAnswer r)) → GivesAnswer result
lock_answers r (Ok a) h = by_fork r h.forked (view a) h.locks
lock_answers r (Err e) h = tt

by_reason : (r : ResolutionFields) (f : TreeAnswer) (a : answer.Answer) → GivesReason r f (Ok a) → IsAnswering a
by_reason r (leaves_are ls) a h = answering a _ h tt
by_reason r (refused_at fork) a h = reason_answering (is_printable fork.region) r fork a h
by_reason r (too_many n) a h = absurd (cc)

why_answers : (r : ResolutionFields) (result : Result Answer Refusal) → Answers view result (only (IsWhyAnswer r)) → GivesAnswer result
why_answers r (Ok a) h = by_reason r h.forked (view a) h.gives
why_answers r (Err e) h = tt

pub wanted_answers : (w : Wanted) (r : ResolutionFields) (result : Result Answer Refusal) → Answers view result (only (IsAnswerFor w r)) → GivesAnswer result
wanted_answers WantedLock r result h = lock_answers r result h
wanted_answers WantedReason r result h = why_answers r result h

by_word : (l : Lock) (m : MachineFields) (words : List (List ℕ)) (o : Option (List ℕ)) (a : answer.Answer) → GivesFor l m words o (Ok a) → IsAnswering a
by_word l m words None a h = answering a _ h.is tt
by_word l m words (Some w) a h = answering a _ h tt

by_machine : (b : Bool) (l : Lock) (m : MachineFields) (words : List (List ℕ)) (a : answer.Answer) → GivesWhere b l m words (Ok a) → IsAnswering a
by_machine false l m words a h = answering a _ h tt
by_machine true l m words a h = by_word l m words (first_other l words) a h

pub env_answers : (l : Lock) (m : MachineFields) (words : List (List ℕ)) (result : Result Answer Refusal) → Answers view result (only (IsEnvAnswer l m words))
    → GivesAnswer result
env_answers l m words (Ok a) h = by_machine _ l m words (view a) h
env_answers l m words (Err e) h = tt

by_rows : (l : Lock) (words : List (List ℕ)) (o : Option (List ℕ)) (a : answer.Answer) → GivesRows l words o (Ok a) → IsAnswering a
by_rows l words None a h = answering a _ h.is tt
by_rows l words (Some w) a h = answering a _ h tt

pub export_answers : (l : Lock) (words : List (List ℕ)) (result : Result Answer Refusal) → Answers view result (only (IsExportAnswer l words)) → GivesAnswer result
export_answers l words (Ok a) h = by_rows l words (first_other l words) (view a) h
export_answers l words (Err e) h = tt

by_texts : (path : List ℕ) (texts : Result (List ℕ) CanonicalRefusal) (a : answer.Answer) → (let r : Result answer.Answer Refused = Ok a in r) ≡ answer_of path texts
    → IsAnswering a
by_texts path (Ok text) a h = answering a _ h tt
by_texts path (Err e) a h = absurd (cc)

pub marker_answers : (path bytes : List ℕ) (result : Result Answer Refusal) → Answers view result (only (IsMarkerAnswer path bytes)) → GivesAnswer result
marker_answers path bytes (Ok a) h = by_texts path h.texts (view a) h.is
marker_answers path bytes (Err e) h = tt

by_judge : (r : ResolutionFields) (x : Proof) (a : answer.Answer) → IsCheckAnswer r x (Ok a) → IsAnswering a
by_judge r x a (inl h) = answering a _ h.is tt
by_judge r x a (inr h) = answering a _ h.is tt

pub check_answers : (r : ResolutionFields) (x : Proof) (result : Result Answer Refusal) → Answers view result (only (IsCheckAnswer r x)) → GivesAnswer result
check_answers r x (Ok a) h = by_judge r x (view a) h
check_answers r x (Err e) h = tt

by_verdict : (r : ResolutionFields) (l : Lock) (a : answer.Answer) → IsVerifyAnswer r l (Ok a) → IsAnswering a
by_verdict r l a (inl h) = answering a _ h.is tt
by_verdict r l a (inr (inl h)) = answering a _ h.is tt
by_verdict r l a (inr (inr (inl h))) = answering a _ h.is tt
by_verdict r l a (inr (inr (inr h))) = answering a _ h.is tt

pub verify_answers : (r : ResolutionFields) (l : Lock) (result : Result Answer Refusal) → Answers view result (only (IsVerifyAnswer r l)) → GivesAnswer result
verify_answers r l (Ok a) h = by_verdict r l (view a) h
verify_answers r l (Err e) h = tt

by_old_lock : (r : ResolutionFields) (l : Lock) (a : answer.Answer) → IsRelockAnswer r l (Ok a) → IsAnswering a
by_old_lock r l a (inl h) = answering a _ h.is tt
by_old_lock r l a (inr (inl h)) = by_fork r h.answers.forked a h.answers.locks
by_old_lock r l a (inr (inr h)) = by_fork (unkept r) h.anew.forked a h.anew.locks

pub relock_answers : (r : ResolutionFields) (l : Lock) (result : Result Answer Refusal) → Answers view result (only (IsRelockAnswer r l)) → GivesAnswer result
relock_answers r l (Ok a) h = by_old_lock r l (view a) h
relock_answers r l (Err e) h = tt

-- what is asked for is answered on the resolution that is read
pub asked_answers : (w : Wanted) (project folder : List ℕ) (workers : ℕ) (old : Option (List ℕ)) (m : FileMap) (result : Result Answer Refusal)
    → Answers view result (said_on (resolution_in project folder old m) (λ r. answers_with (IsAnswerFor w r) m))
    → Answers view result (command (asked_for w project folder workers old) m)
asked_answers WantedLock project folder workers old m result h = h
asked_answers WantedReason project folder workers old m result h = h
