-- A lock of one fork that is printed is printed again, where it is the old lock.
use Rattle.std.proofs.Common.{◌≡◌, ◌∙◌, ℕ, List, [], Option, Some, None, Result, Ok, Err, sym, ap, subst, inl, inr}
use Rattle.ul_files.specs.Files.{FileMap, content}
use Rattle.ul_lock.specs.WellFormed.{IsWellFormed}
use Rattle.ul_lock.specs.declared.parts.Lock.{Lock}
use Rattle.ul_lock_read.specs.Laws.{OneTextOneLock, TextIsLocks}
use Rattle.ul_lock_read.specs.TextOf.{IsTextOf}
use Rattle.ul_lock_write.specs.Markers.{first_over, markers_of}
use Rattle.ul_lock_write.specs.Texts.{lock_text}
use Rattle.ul_inputs.specs.Refused.{Refused}
use Rattle.ul_inputs.specs.Resolutions.{ResolutionFields, resolution_in}
use Rattle.ul_answers.specs.Answer.{Answer, locked}
use Rattle.ul_answers.specs.Printed.{Output, printed}
use Rattle.ul_commands.specs.Locking.{lock_of}
use Rattle.laws_commands.specs.Complete.{LocksWithinLimits}
use Rattle.laws_frames.specs.Frames.{AgreeOn}
use Rattle.laws_relock.specs.Again.{LevelAreEqual}
use Rattle.laws_relock.specs.LockedAgain.{LocksAreLockedAgain}
use Rattle.laws_relock.specs.Settled.{LocksAreSettled}
use Rattle.laws_relock.specs.Texts.{IsPrinted, OneForkIsPrintedAgain}
use Rattle.laws_relock.proofs.Texts.{answered, at_path, no_zero, text_of}
use Rattle.laws_relock.proofs.Whole.{whole}

-- the lock that a text is read as is the one of which it is the text
one_lock : OneTextOneLock → TextIsLocks → (bytes : List ℕ) (l k : Lock) → IsTextOf bytes l → bytes ≡ lock_text k
    → IsWellFormed k → first_over (markers_of k) ≡ None → l ≡ k
one_lock locks texts bytes l k is e well paths = locks bytes l k is (subst (λ b. IsTextOf b k) (sym e) (texts k well paths))

module _ (limits : LocksWithinLimits) (law : LocksAreSettled) (again : LocksAreLockedAgain) (locks : OneTextOneLock)
    (texts : TextIsLocks) (project folder path : List ℕ) (old : Option (List ℕ)) (before now : FileMap) (bytes : List ℕ)
    (l : Lock) (agree : AgreeOn (resolution_in project folder None before).reads before now)
    (levels : (r : ResolutionFields) → (resolution_in project folder None before).gives (Ok r) → LevelAreEqual r.catalog)
    (is : IsTextOf bytes l) (alone : l.forks ≡ []) (at : content now path ≡ Some bytes) where
  again_of : (a : Result Answer Refused) → (lock_of project folder old before).gives a → 0 ≡ (printed a).0
      → bytes ≡ (printed a).1 → IsPrinted (lock_of project folder (Some path) now) 0 bytes
  again_of (Ok x) (inl h) zero e = absurd h
  again_of (Err f) (inl h) zero e = absurd (no_zero f zero)
  again_of a (inr h) zero e =
      let w = answered limits h.value a h.answers (sym zero) in
      let gives = subst (λ x. (lock_of project folder old before).gives x) w.is (inr h) in
      let text = text_of a bytes w e in
      let settled = law project folder old before w.lock w.forks gives w.few in
      let same = one_lock locks texts bytes l w.lock is text settled.well_formed w.paths in
      let output = whole (first_over (markers_of w.lock)) (lock_text w.lock) w.paths w.few in
      record {
        answer = Ok (locked w.lock w.forks);
        gives =
            again project folder path old before now w.lock w.forks agree levels gives
            (subst (λ (k : Lock). k.forks ≡ []) same alone) (at_path now path bytes (lock_text w.lock) at text) w.few;
        status_is = sym (ap (λ (o : Output). o.0) output);
        bytes_are = text ∙ sym (ap (λ (o : Output). o.1) output);
      }

pub one_fork_is_printed_again : LocksWithinLimits → LocksAreSettled → LocksAreLockedAgain → OneTextOneLock → TextIsLocks
    → OneForkIsPrintedAgain
one_fork_is_printed_again limits law again locks texts project folder path old before now bytes l agree levels h is alone at =
    again_of limits law again locks texts project folder path old before now bytes l agree levels is alone at
    h.answer h.gives h.status_is h.bytes_are
