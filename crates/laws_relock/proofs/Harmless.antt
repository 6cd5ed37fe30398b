-- An old lock does no harm.
use Rattle.std.proofs.Common.{◌≡◌, ◌∙◌, ℕ, List, [], Some, None, Result, Ok, Err, refl, ap, inl, inr}
use Rattle.ul_files.specs.Files.{FileMap}
use Rattle.ul_project.specs.Fields.{ProjectFields}
use Rattle.ul_lock.specs.declared.parts.Lock.{Lock}
use Rattle.ul_lock_read.specs.Laws.{OneFault, OneTextOneLock}
use Rattle.ul_lock_write.specs.Markers.{first_over, markers_of}
use Rattle.ul_lock_write.specs.Texts.{lock_text}
use Rattle.ul_inputs.specs.Locks.{Kept, kept_of, lock_at}
use Rattle.ul_inputs.specs.Projects.{project_at}
use Rattle.ul_inputs.specs.Refused.{Refused, limit, malformed}
use Rattle.ul_inputs.specs.Resolutions.{ResolutionFields, resolution_with}
use Rattle.ul_answers.specs.Answer.{Answer}
use Rattle.ul_answers.specs.Printed.{Output, printed, refused_output}
use Rattle.ul_commands.specs.Asked.{lock}
use Rattle.ul_commands.specs.Locking.{IsLockAnswer, lock_of}
use Rattle.laws_commands.specs.Answers.{AnswersAreEqual}
use Rattle.laws_commands.proofs.ForCallers.{not_both, one_lock_at}
use Rattle.ul_commands.specs.Relocking.{IsKeptLock, IsRelockAnswer, refreshed, relock_of, relock_on, relock_with, unkept}
use Rattle.laws_relock.specs.Harmless.{OldLocksAreHarmless, RefusalsAreAnew}
use Rattle.laws_relock.proofs.Whole.{whole}
use Rattle.laws_relock.proofs.Settled.{IsRelocked, given_anew, relocked_gave, relocked_of}

-- ---- statuses

-- a lock that stays is printed
kept_status : (r : ResolutionFields) (l : Lock) (a : Result Answer Refused) → IsKeptLock r l a → (printed a).0 ≡ 0
kept_status r l a h =
    let k = refreshed r.catalog l in
    ap (λ b. (printed b).0) h.is
    ∙ ap (λ (o : Output). o.0) (whole (first_over (markers_of k)) (lock_text k) h.kept.paths h.kept.bytes)

refused_not_one : (e : Refused) → (refused_output e).0 ≡ 1 → ⊥
refused_not_one (malformed file place) s = absurd (cc)
refused_not_one (limit name number) s = absurd (cc)

zero_not_one : (n : ℕ) → n ≡ 0 → n ≡ 1 → ⊥
zero_not_one n z o = cc

-- ---- a refused input of `relock` but the old lock is one of `lock` without it

made_anew : (folder : List ℕ) (p : ProjectFields) (kept : List Kept) (m : FileMap) (e : Refused)
    → (resolution_with folder p kept m).gives (Err e) → (resolution_with folder p [] m).gives (Err e)
made_anew folder p kept m e (inl h) = inl h
made_anew folder p kept m e (inr h) = absurd (let bad = h.answers in cc)

project_anew : (project folder : List ℕ) (m : FileMap) (e : Refused) → (project_at project m).gives (Err e)
    → (lock_of project folder None m).gives (Err e)
project_anew project folder m e h = inl (inl h)

index_anew : (project folder : List ℕ) (m : FileMap) (p : ProjectFields) (kept : List Kept) (e : Refused)
    → (project_at project m).gives (Ok p) → (resolution_with folder p kept m).gives (Err e)
    → (lock_of project folder None m).gives (Err e)
index_anew project folder m p kept e said h = inl (inr (record {
  value = p;
  gave = said;
  answers = inr (record { value = []; gave = refl; answers = made_anew folder p kept m e h });
}))

-- and an answer without the old lock's versions is its answer
answer_anew : (project folder old : List ℕ) (m : FileMap) (a : Result Answer Refused) (h : IsRelocked project folder old m a)
    → IsLockAnswer (unkept h.resolution) a → (lock_of project folder None m).gives a
answer_anew project folder old m a h answer = inr (record {
  value = unkept h.resolution;
  gave = given_anew project folder (Some old) m h.resolution (relocked_gave project folder old m a h);
  answers = answer;
})

-- ---- with status 1

by_cases : (project folder old : List ℕ) (m : FileMap) (a : Result Answer Refused) (h : IsRelocked project folder old m a)
    → IsRelockAnswer h.resolution h.lock a → (printed a).0 ≡ 1 → (lock_of project folder None m).gives a
by_cases project folder old m a h (inl kept) s =
    absurd (zero_not_one (printed a).0 (kept_status h.resolution h.lock a kept) s)
by_cases project folder old m a h (inr (inl again)) s = absurd (zero_not_one (printed a).0 again.status s)
by_cases project folder old m a h (inr (inr anew)) s = answer_anew project folder old m a h anew.anew

pub refusals_are_anew : RefusalsAreAnew
refusals_are_anew project folder old m (Err e) gives s = absurd (refused_not_one e s)
refusals_are_anew project folder old m (Ok x) gives s =
    let h = relocked_of project folder old m x gives in
    by_cases project folder old m (Ok x) h h.answers s

-- ---- with status 0

module _ (law : AnswersAreEqual) (locks : OneTextOneLock) (faults : OneFault) (project folder old : List ℕ) (m : FileMap)
    (b : Result Answer Refused) (gave : (lock_of project folder None m).gives b) (zero : (printed b).0 ≡ 0) where
  -- what `lock` answers has status 0
  same_zero : (a : Result Answer Refused) → (lock_of project folder None m).gives a → (printed a).0 ≡ 0
  same_zero a gives = ap (λ x. (printed x).0) (law (lock project folder 1 None) m a b tt gives gave) ∙ zero

  zero_by : (a : Result Answer Refused) (h : IsRelocked project folder old m a) → IsRelockAnswer h.resolution h.lock a
      → (printed a).0 ≡ 0
  zero_by a h (inl kept) = kept_status h.resolution h.lock a kept
  zero_by a h (inr (inl again)) = again.status
  zero_by a h (inr (inr anew)) = same_zero a (answer_anew project folder old m a h anew.anew)

  zero_made : (a : Result Answer Refused) (p : ProjectFields) (l : Lock) → (project_at project m).gives (Ok p)
      → (lock_at old m).gives (Ok l) → (relock_with folder p l m).gives a → (printed a).0 ≡ 0
  zero_made (Ok x) p l said read (inl h) = absurd h
  zero_made (Err e) p l said read (inl h) = same_zero (Err e) (index_anew project folder m p (kept_of l) e said h)
  zero_made a p l said read (inr h) =
      zero_by a (record {
        fields = p;
        said = said;
        lock = l;
        read = read;
        resolution = h.value;
        made = h.gave;
        answers = h.answers;
      }) h.answers

  zero_read : (l : Lock) (a : Result Answer Refused) (p : ProjectFields) → (lock_at old m).gives (Ok l)
      → (project_at project m).gives (Ok p) → (relock_on folder old p m).gives a → (printed a).0 ≡ 0
  zero_read l (Ok x) p read said (inl h) = absurd h
  zero_read l (Err e) p read said (inl h) = absurd (not_both Lock l e (one_lock_at locks faults old m (Ok l) (Err e) read h))
  zero_read l a p read said (inr h) = zero_made a p h.value said h.gave h.answers

  zero_of : (l : Lock) (a : Result Answer Refused) → (lock_at old m).gives (Ok l) → (relock_of project folder old m).gives a
      → (printed a).0 ≡ 0
  zero_of l (Ok x) read (inl h) = absurd h
  zero_of l (Err e) read (inl h) = same_zero (Err e) (project_anew project folder m e h)
  zero_of l a read (inr h) = zero_read l a h.value read h.gave h.answers

pub old_locks_are_harmless : AnswersAreEqual → OneTextOneLock → OneFault → OldLocksAreHarmless
old_locks_are_harmless law locks faults project folder old m l a b read gave zero gives =
    zero_of law locks faults project folder old m b gave zero l a read gives
