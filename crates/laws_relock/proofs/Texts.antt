-- What is printed with status 0 is the text of a settled lock, and stays.
use Rattle.std.proofs.Common.{◌≡◌, ◌∙◌, ◌≤◌, ℕ, List, length, Option, Some, None, Result, Ok, Err, sym, ap, subst, inl, inr}
use Rattle.ul_files.specs.Files.{FileMap, content}
use Rattle.ul_lock.specs.declared.parts.Lock.{Lock}
use Rattle.ul_lock_write.specs.Markers.{first_over, markers_of}
use Rattle.ul_lock_write.specs.Texts.{lock_text}
use Rattle.ul_inputs.specs.Inputs.{text_bytes}
use Rattle.ul_inputs.specs.Refused.{Refused, limit, malformed}
use Rattle.ul_inputs.specs.Resolutions.{ResolutionFields}
use Rattle.ul_answers.specs.Answer.{Answer, locked}
use Rattle.ul_answers.specs.Printed.{Output, printed, refused_output}
use Rattle.ul_commands.specs.Locking.{IsLockAnswer, lock_of}
use Rattle.laws_commands.specs.Complete.{LocksWithinLimits}
use Rattle.ul_commands.specs.Relocking.{IsKeptLock, IsRelockAnswer, fork_count, refreshed, relock_of, unkept}
use Rattle.laws_relock.specs.Settled.{LocksAreSettled, RelocksAreSettled, SettledPromises}
use Rattle.laws_relock.specs.Texts.{IsPrinted, IsSettledText, PrintedLocksAreSettled, PrintedRelocksAreSettled, SettledTextPromises}
use Rattle.laws_relock.proofs.Whole.{whole}
use Rattle.laws_relock.proofs.Settled.{relocked_of}

pub no_zero : (e : Refused) → 0 ≡ (refused_output e).0 → ⊥
no_zero (malformed file place) s = absurd (cc)
no_zero (limit name number) s = absurd (cc)

-- the answer is a lock within its limits
pub record IsWrittenLock (a : Result Answer Refused) : Type 0 where
  pub lock : Lock
  pub forks : ℕ
  pub is : a ≡ Ok (locked lock forks)
  pub paths : first_over (markers_of lock) ≡ None
  pub few : length (lock_text lock) ≤ text_bytes

-- so the bytes are its text
pub text_of : (a : Result Answer Refused) (bytes : List ℕ) (w : IsWrittenLock a) → bytes ≡ (printed a).1 → bytes ≡ lock_text w.lock
text_of a bytes w e =
    e ∙ (ap (λ x. (printed x).1) w.is ∙ ap (λ (o : Output). o.1) (whole (first_over (markers_of w.lock)) (lock_text w.lock) w.paths w.few))

-- ---- what is printed

pub answered : LocksWithinLimits → (r : ResolutionFields) (a : Result Answer Refused) → IsLockAnswer r a → (printed a).0 ≡ 0 → IsWrittenLock a
answered limits r a h zero =
    let within = (limits r a h).0 zero in
    record { lock = within.locked.lock; forks = _; is = within.is; paths = within.paths; few = within.bytes }

kept : (r : ResolutionFields) (l : Lock) (a : Result Answer Refused) → IsKeptLock r l a → IsWrittenLock a
kept r l a h = record {
  lock = refreshed r.catalog l;
  forks = fork_count l.forks;
  is = h.is;
  paths = h.kept.paths;
  few = h.kept.bytes;
}

relocked : LocksWithinLimits → (r : ResolutionFields) (l : Lock) (a : Result Answer Refused) → IsRelockAnswer r l a → (printed a).0 ≡ 0
    → IsWrittenLock a
relocked limits r l a (inl h) zero = kept r l a h
relocked limits r l a (inr (inl h)) zero = answered limits r a h.answers zero
relocked limits r l a (inr (inr h)) zero = answered limits (unkept r) a h.anew zero

lock_text_of : LocksWithinLimits → LocksAreSettled → (project folder : List ℕ) (old : Option (List ℕ)) (m : FileMap) (bytes : List ℕ)
    (a : Result Answer Refused) → (lock_of project folder old m).gives a → 0 ≡ (printed a).0 → bytes ≡ (printed a).1
    → IsSettledText project folder m bytes
lock_text_of limits law project folder old m bytes (Ok x) (inl h) zero e = absurd h
lock_text_of limits law project folder old m bytes (Err f) (inl h) zero e = absurd (no_zero f zero)
lock_text_of limits law project folder old m bytes a (inr h) zero e =
    let w = answered limits h.value a h.answers (sym zero) in
    record {
      lock = w.lock;
      is = text_of a bytes w e;
      settled = law project folder old m w.lock w.forks (subst (λ x. (lock_of project folder old m).gives x) w.is (inr h)) w.few;
    }

pub printed_locks_are_settled : LocksWithinLimits → LocksAreSettled → PrintedLocksAreSettled
printed_locks_are_settled limits law project folder old m bytes h =
    lock_text_of limits law project folder old m bytes h.answer h.gives h.status_is h.bytes_are

relock_text_of : LocksWithinLimits → RelocksAreSettled → (project folder old : List ℕ) (m : FileMap) (bytes : List ℕ)
    (a : Result Answer Refused) → (relock_of project folder old m).gives a → 0 ≡ (printed a).0 → bytes ≡ (printed a).1
    → IsSettledText project folder m bytes
relock_text_of limits law project folder old m bytes (Err f) gives zero e = absurd (no_zero f zero)
relock_text_of limits law project folder old m bytes (Ok x) gives zero e =
    let h = relocked_of project folder old m x gives in
    let w = relocked limits h.resolution h.lock (Ok x) h.answers (sym zero) in
    record {
      lock = w.lock;
      is = text_of (Ok x) bytes w e;
      settled = law project folder old m w.lock w.forks (subst (λ y. (relock_of project folder old m).gives y) w.is gives) w.few;
    }

pub printed_relocks_are_settled : LocksWithinLimits → RelocksAreSettled → PrintedRelocksAreSettled
printed_relocks_are_settled limits law project folder old m bytes h =
    relock_text_of limits law project folder old m bytes h.answer h.gives h.status_is h.bytes_are

-- ---- what holds of the text of a settled lock

pub at_path : (m : FileMap) (path bytes text : List ℕ) → content m path ≡ Some bytes → bytes ≡ text → content m path ≡ Some text
at_path m path bytes text at is = at ∙ ap (λ x. Some x) is

stays : SettledPromises → (project folder path : List ℕ) (m : FileMap) (bytes : List ℕ) → IsSettledText project folder m bytes
    → content m path ≡ Some bytes → IsPrinted (relock_of project folder path m) 0 bytes
stays promises project folder path m bytes h at =
    let l = h.lock in
    let same = h.settled.same in
    let paths = ap (λ k. first_over (markers_of k)) (sym same) ∙ h.settled.kept.paths in
    let few = subst (λ k. length (lock_text k) ≤ text_bytes) same h.settled.kept.bytes in
    let output = whole (first_over (markers_of l)) (lock_text l) paths few in
    record {
      answer = Ok (locked l (fork_count l.forks));
      gives = promises.stays project folder path m l h.settled (at_path m path bytes (lock_text l) at h.is);
      status_is = sym (ap (λ (o : Output). o.0) output);
      bytes_are = h.is ∙ sym (ap (λ (o : Output). o.1) output);
    }

pub settled_text_promises : SettledPromises → SettledTextPromises
settled_text_promises promises = record {
  moves = λ project folder before now bytes agree h. record {
    lock = h.lock;
    is = h.is;
    settled = promises.moves project folder before now h.lock agree h.settled;
  };
  stays = stays promises;
  verified = λ project folder path m bytes h at.
      promises.verified project folder path m h.lock h.settled (at_path m path bytes (lock_text h.lock) at h.is);
}
