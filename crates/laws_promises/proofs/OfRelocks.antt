-- What `relock` prints.
use Rattle.std.proofs.Common.{◌≡◌, ◌∙◌, ◌⊎◌, ℕ, List, Some, None, Ok, sym, subst, inl, inr}
use Rattle.ul_files.specs.Files.{FileMap}
use Rattle.ul_answers.specs.Answer as answers
use Rattle.ul_commands.specs.Asked.{Asked, lock, relock, verify}
use Rattle.ul_commands.specs.Commands.{command}
use Rattle.laws_relock.specs.Again.{LevelVersionsAreEqual}
use Rattle.laws_relock.specs.Harmless.{OldLocksAreHarmless, RefusalsAreAnew}
use Rattle.laws_relock.specs.Settled.{SettledPromises}
use Rattle.laws_relock.specs.Texts.{IsPrinted, IsSettledText, OneForkIsPrintedAgain, PrintedLocksAreSettled, PrintedRelocksAreSettled, SettledTextPromises}
use Rattle.laws_existence.specs.Inputs.{GivenIsAskable}
use Rattle.ul_program.specs.Answer.{IsAnswer, IsAskedAnswer}
use Rattle.ul_program.specs.Words.{question}
use Rattle.laws_promises.specs.Relocked.{AsksLock, AsksRelock, OldLocksDoNoHarm, OneForkIsLockedAgain, RefusalsAreOfNone, RelocksAreRight, RelocksAreVerified, RightLocksStay}
use Rattle.laws_promises.proofs.OfAnswers.{asked_answer, is_answer}

-- ---- answers of words, and what is printed for what they ask

printed_of : (words : List (List ℕ)) (m : FileMap) (status : ℕ) (bytes : List ℕ) (asked : Asked)
    → question words ≡ asked → IsAnswer words m status bytes → IsPrinted (command asked m) status bytes
printed_of words m status bytes asked q is =
    let a = asked_answer words m status bytes asked q is in
    record { answer = a.answer; gives = a.gives; status_is = a.prints.0; bytes_are = a.prints.1 }

answer_of : (words : List (List ℕ)) (m : FileMap) (status : ℕ) (bytes : List ℕ) (asked : Asked)
    → question words ≡ asked → IsPrinted (command asked m) status bytes → IsAnswer words m status bytes
unfolding IsAnswer
answer_of words m status bytes asked q h =
    subst (λ (x : Asked). IsAskedAnswer m x status bytes) (sym q)
    (record { answer = h.answer; gives = h.gives; prints = (h.status_is, h.bytes_are) })

-- ---- a lock that is right stays

-- what `relock` printed is the text of a settled lock
relocked_settled : PrintedRelocksAreSettled → (words : List (List ℕ)) (m : FileMap) (bytes project folder old : List ℕ)
    (workers : ℕ) → question words ≡ relock project folder workers old → IsAnswer words m 0 bytes
    → IsSettledText project folder m bytes
relocked_settled relocks words m bytes project folder old workers q is =
    relocks project folder old m bytes (printed_of words m 0 bytes (relock project folder workers old) q is)

-- and so is what either printed
settled_before : PrintedLocksAreSettled → PrintedRelocksAreSettled → (words : List (List ℕ)) (m : FileMap)
    (bytes project folder : List ℕ) → AsksLock words project folder ⊎ AsksRelock words project folder
    → IsAnswer words m 0 bytes → IsSettledText project folder m bytes
settled_before locks relocks words m bytes project folder (inl q) is =
    locks project folder q.old m bytes (printed_of words m 0 bytes (lock project folder q.workers q.old) q.is is)
settled_before locks relocks words m bytes project folder (inr q) is =
    relocked_settled relocks words m bytes project folder q.old q.workers q.is is

pub right_locks_stay : PrintedLocksAreSettled → PrintedRelocksAreSettled → SettledTextPromises → RightLocksStay
right_locks_stay locks relocks texts words others before now bytes project folder path workers asks q is at agree =
    let text = settled_before locks relocks words before bytes project folder asks is in
    answer_of others now 0 bytes (relock project folder workers path) q
    (texts.stays project folder path now bytes (texts.moves project folder before now bytes agree text) at)

pub relocks_are_verified : PrintedRelocksAreSettled → SettledTextPromises → RelocksAreVerified
relocks_are_verified relocks texts words others before now bytes project folder old path workers q v is at agree =
    let text = relocked_settled relocks words before bytes project folder old workers q is in
    is_answer others now (verify project folder path) (Ok answers.verified) v
    (texts.verified project folder path now bytes (texts.moves project folder before now bytes agree text) at)

pub relocks_are_right : PrintedRelocksAreSettled → SettledPromises → RelocksAreRight
relocks_are_right relocks promises words m bytes project folder old workers q is =
    let text = relocked_settled relocks words m bytes project folder old workers q is in
    record {
      resolution = text.settled.resolution;
      given = text.settled.given;
      lock = text.lock;
      is = text.is;
      well_formed = text.settled.well_formed;
      sound = promises.sound project folder m text.lock text.settled;
    }

-- ---- an old lock does no harm

pub old_locks_do_no_harm : OldLocksAreHarmless → OldLocksDoNoHarm
old_locks_do_no_harm law words others m status bytes text project folder old j k l q n read is again =
    let none = printed_of others m 0 text (lock project folder k None) n is in
    let with_old = printed_of words m status bytes (relock project folder j old) q again in
    with_old.status_is
    ∙ law project folder old m l with_old.answer none.answer read none.gives (sym none.status_is) with_old.gives

pub refusals_are_of_none : RefusalsAreAnew → RefusalsAreOfNone
refusals_are_of_none law words others m bytes project folder old j k q n is =
    let with_old = printed_of words m 1 bytes (relock project folder j old) q is in
    answer_of others m 1 bytes (lock project folder k None) n (record {
      answer = with_old.answer;
      gives = law project folder old m with_old.answer with_old.gives (sym with_old.status_is);
      status_is = with_old.status_is;
      bytes_are = with_old.bytes_are;
    })

-- ---- a lock of one fork

pub one_fork_is_locked_again : OneForkIsPrintedAgain → LevelVersionsAreEqual → GivenIsAskable → OneForkIsLockedAgain
one_fork_is_locked_again law level askable words others before now bytes project folder path j k old l q o is text =
    λ one at agree.
    answer_of others now 0 bytes (lock project folder k (Some path)) o
    (law project folder path old before now bytes l agree
    (λ r given. level r.catalog (askable project folder None before r given).packages)
    (printed_of words before 0 bytes (lock project folder j old) q is) text one at)
