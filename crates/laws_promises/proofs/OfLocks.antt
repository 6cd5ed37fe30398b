-- What `lock` prints.
use Rattle.std.proofs.Common.{◌≡◌, ◌++◌, ◌∙◌, ◌≤◌, ℕ, List, Bool, true, false, length, Option, Some, None, Result, Ok, refl, ap, sym, subst}
use Rattle.ul_files.specs.Files.{FileMap}
use Rattle.ul_tree.specs.Paths.{is_printable}
use Rattle.ul_lock.specs.declared.parts.Lock.{Lock}
use Rattle.ul_lock_write.specs.Markers.{first_over, markers_of}
use Rattle.ul_lock_write.specs.Texts.{lock_text}
use Rattle.ul_generations.specs.Generations.{leaves_are, refused_at, too_many}
use Rattle.ul_forks.specs.Headline.{ForkLaws, TreeAnswer, TreeRefusal}
use Rattle.ul_report.specs.Texts.{refusal_text}
use Rattle.ul_inputs.specs.Inputs.{answer, text_bytes}
use Rattle.ul_inputs.specs.Refused.{Refused}
use Rattle.ul_inputs.specs.Resolutions.{ResolutionFields, resolution_in}
use Rattle.laws_given.specs.Given.{GivenHasTexts, GivenIsResolution}
use Rattle.ul_answers.specs.Answer as answers
use Rattle.ul_answers.specs.Printed.{output_of, printed}
use Rattle.ul_commands.specs.Asked.{lock, verify}
use Rattle.ul_commands.specs.Commands.{command}
use Rattle.ul_commands.specs.Laws.{LocksAreSound, RefusedAreUnserved}
use Rattle.ul_commands.specs.Locking.{IsLockAnswer, LocksFor, RefusedWhere, answer_where, lock_of}
use Rattle.ul_commands.specs.Questions.{IsForked, question_of, too_many_forks}
use Rattle.laws_commands.specs.Complete.{LocksWithinLimits}
use Rattle.laws_commands.specs.Verified.{LocksAreVerified}
use Rattle.laws_commands.specs.WellFormed.{LocksAreWellFormed}
use Rattle.laws_promises.specs.Promises.{IsFirstRefused, LocksAreRight, PrintedAreVerified, RefusalsAreRight, TellsCore}
use Rattle.laws_promises.proofs.OfAnswers.{asked_answer, is_answer, no_one, on_one, on_zero, other_status, refusal_is, written_is, written_not_one}

-- ---- with status 0

-- the answer is a lock, and the bytes are its text
pub record PrintsLock (project folder : List ℕ) (old : Option (List ℕ)) (m : FileMap) (a : Result answers.Answer Refused) (bytes : List ℕ) : Type 0 where
  pub resolution : ResolutionFields
  pub gave : (resolution_in project folder old m).gives (Ok resolution)
  pub lock : Lock
  pub forks : ℕ
  pub is : a ≡ Ok (answers.locked lock forks)
  pub answers : IsLockAnswer resolution (Ok (answers.locked lock forks))
  pub text : bytes ≡ lock_text lock
  pub few : length (lock_text lock) ≤ text_bytes

pub text_of : (l : Lock) (forks : ℕ) (a : Result answers.Answer Refused) (bytes : List ℕ) → a ≡ Ok (answers.locked l forks)
    → 0 ≡ (printed a).0 → bytes ≡ (printed a).1 → bytes ≡ lock_text l
text_of l forks a bytes is status e =
    e ∙ (ap (λ x. (printed x).1) is ∙ written_is (first_over (markers_of l)) (lock_text l) (status ∙ ap (λ x. (printed x).0) is))

pub printed_lock : LocksWithinLimits → (project folder : List ℕ) (old : Option (List ℕ)) (m : FileMap) (a : Result answers.Answer Refused) (bytes : List ℕ)
    → (lock_of project folder old m).gives a → 0 ≡ (printed a).0 → bytes ≡ (printed a).1 → PrintsLock project folder old m a bytes
printed_lock limits project folder old m a bytes gives status e =
    let on = on_zero (resolution_in project folder old m) (λ r. answer (IsLockAnswer r) m) a gives status in
    let within = (limits on.value a on.answers).0 (sym status) in
    let is = within.is in
    record {
      resolution = on.value;
      gave = on.gave;
      lock = within.locked.lock;
      forks = _;
      is = is;
      answers = subst (IsLockAnswer on.value) is on.answers;
      text = text_of within.locked.lock _ a bytes is status e;
      few = within.bytes;
    }

pub locks_are_right : LocksWithinLimits → GivenIsResolution → GivenHasTexts → LocksAreWellFormed → LocksAreSound → LocksAreRight
locks_are_right limits given had formed sound words m bytes project folder workers old q is =
    let asked = asked_answer words m 0 bytes (lock project folder workers old) q is in
    let p = printed_lock limits project folder old m asked.answer bytes asked.gives asked.prints.0 asked.prints.1 in
    let resolution = given project folder old m p.resolution p.gave in
    record {
      resolution = p.resolution;
      given = p.gave;
      lock = p.lock;
      is = p.text;
      well_formed = formed p.resolution p.lock p.forks resolution (had project folder old m p.resolution p.gave) p.answers;
      sound = sound p.resolution p.lock p.forks resolution p.answers;
    }

pub printed_are_verified : LocksWithinLimits → LocksAreVerified → PrintedAreVerified
printed_are_verified limits law words others before now bytes project folder path workers old q v is agree there =
    let asked = asked_answer words before 0 bytes (lock project folder workers old) q is in
    let p = printed_lock limits project folder old before asked.answer bytes asked.gives asked.prints.0 asked.prints.1 in
    let gives = subst (λ (x : Result answers.Answer Refused). (command (lock project folder workers old) before).gives x) p.is asked.gives in
    is_answer others now (verify project folder path) (Ok answers.verified) v
    (law project folder path old workers before now p.lock p.forks gives agree (there ∙ ap (λ (x : List ℕ). Some x) p.text) p.few)

-- ---- with status 1

-- a merged lock is answered with another status
pub lock_not_one : (o : Option ℕ) (l : Lock) (forks : ℕ) → 1 ≡ (output_of (answer_where o l forks)).0 → ⊥
lock_not_one None l forks e = written_not_one (first_over (markers_of l)) (lock_text l) e
lock_not_one (Some paths) l forks e = absurd (let four : 1 ≡ 4 = e in cc)

-- the refused fork of a fork answer
pub first_refused : ForkLaws → (r : ResolutionFields) (fork : TreeRefusal) → IsForked r (refused_at fork)
    → IsFirstRefused r fork.path fork.region
first_refused laws r fork forked = record {
  fork = fork;
  at = refl;
  of = refl;
  first = forked;
  inside = ((laws.forks (question_of r) r.project.region).refusal forked.counts fork forked.answer).inside;
}

by_region : ForkLaws → GivenIsResolution → RefusedAreUnserved → (project folder : List ℕ) (old : Option (List ℕ)) (m : FileMap) (r : ResolutionFields)
    (a : Result answers.Answer Refused) (bytes : List ℕ)
    → (resolution_in project folder old m).gives (Ok r) → IsLockAnswer r a → (fork : TreeRefusal) → IsForked r (refused_at fork)
    → (told : Bool) → RefusedWhere told r fork a → 1 ≡ (printed a).0 → bytes ≡ (printed a).1 → TellsCore project folder old m bytes
by_region laws given unserved project folder old m r a bytes gave all fork forked true h status e =
    let text = refusal_text fork.path fork.region ++ h.lines in
    record {
      resolution = r;
      given = gave;
      path = fork.path;
      region = fork.region;
      core = h.lines;
      is = e ∙ (ap (λ x. (printed x).1) h.is ∙ refusal_is fork.region text (status ∙ ap (λ x. (printed x).0) h.is));
      lines = h.core;
      first = first_refused laws r fork forked;
      unserved = unserved r fork.path fork.region h.lines (given project folder old m r gave) (subst (IsLockAnswer r) h.is all);
    }
by_region laws given unserved project folder old m r a bytes gave all fork forked false h status e =
    absurd (other_status 1 4 a _ refl refl status h)

by_forks : ForkLaws → GivenIsResolution → RefusedAreUnserved → (project folder : List ℕ) (old : Option (List ℕ)) (m : FileMap) (r : ResolutionFields)
    (a : Result answers.Answer Refused) (bytes : List ℕ)
    → (resolution_in project folder old m).gives (Ok r) → IsLockAnswer r a → (forked : TreeAnswer) → IsForked r forked → LocksFor r forked a
    → 1 ≡ (printed a).0 → bytes ≡ (printed a).1 → TellsCore project folder old m bytes
by_forks laws given unserved project folder old m r a bytes gave all (leaves_are ls) forked h status e =
    absurd (lock_not_one (first_over (markers_of h.lock)) h.lock (length ls) (status ∙ ap (λ x. (printed x).0) h.is))
by_forks laws given unserved project folder old m r a bytes gave all (refused_at fork) forked h status e =
    by_region laws given unserved project folder old m r a bytes gave all fork forked (is_printable fork.region) h status e
by_forks laws given unserved project folder old m r a bytes gave all (too_many n) forked h status e =
    absurd (no_one too_many_forks (status ∙ ap (λ x. (printed x).0) h))

pub refusals_are_right : ForkLaws → GivenIsResolution → RefusedAreUnserved → RefusalsAreRight
refusals_are_right laws given unserved words m bytes project folder workers old q is =
    let asked = asked_answer words m 1 bytes (lock project folder workers old) q is in
    let on = on_one (resolution_in project folder old m) (λ r. answer (IsLockAnswer r) m) asked.answer asked.gives asked.prints.0 in
    by_forks laws given unserved project folder old m on.value asked.answer bytes on.gave on.answers on.answers.forked
    on.answers.are_forks on.answers.locks
    asked.prints.0 asked.prints.1
