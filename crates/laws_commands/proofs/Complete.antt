-- Inputs that are read are answered, and by which status.
use Rattle.std.proofs.Common.{◌≡◌, ◌∙◌, ◌≤◌, ℕ, List, [], ◌++◌, Bool, true, false, length, Option, Some, None, Result, Ok, refl, sym, ap, arith, inl, inr}
use Rattle.std.specs.Prelude.{codes, nat_le}
use Rattle.ul_files.specs.Files.{FileMap}
use Rattle.ul_tree.specs.Paths.{is_printable}
use Rattle.ul_nodes.specs.Plain.{Plain}
use Rattle.ul_generations.specs.Generations.{leaves_are, refused_at, too_many}
use Rattle.ul_forks.specs.Headline.{TreeAnswer, TreeLeaf, TreeRefusal}
use Rattle.ul_lock.specs.declared.parts.Lock.{Lock}
use Rattle.ul_lock_write.specs.Markers.{first_over, markers_of}
use Rattle.ul_lock_write.specs.Texts.{lock_text}
use Rattle.ul_report.specs.Texts.{refusal_text}
use Rattle.ul_load.specs.Loading.{file_bytes}
use Rattle.ul_inputs.specs.Inputs.{answer, small_file, text_bytes}
use Rattle.ul_inputs.specs.Locks.{kept_of, lock_at, old_lock}
use Rattle.ul_inputs.specs.Machines.{machine_at}
use Rattle.ul_inputs.specs.Projects.{project_at}
use Rattle.ul_inputs.specs.Refused.{Refused}
use Rattle.ul_inputs.specs.Resolutions.{ResolutionFields, resolution_in, resolution_with}
use Rattle.ul_answers.specs.Answer.{Answer, locked}
use Rattle.ul_answers.specs.Printed.{lock_output, output_of, printed, refusal_output, text_output, written}
use Rattle.ul_lock_commands.specs.Environments.{IsEnvAnswer, env_on}
use Rattle.ul_lock_commands.specs.Exports.{IsExportAnswer}
use Rattle.ul_commands.specs.Asked.{relock}
use Rattle.ul_commands.specs.Checking.{IsCheckAnswer, check_on, check_with, proof_at}
use Rattle.ul_commands.specs.Commands.{command}
use Rattle.ul_commands.specs.Locking.{IsLockAnswer, IsLocked, LocksFor, RefusedWhere, answer_of, answer_where}
use Rattle.ul_commands.specs.Markers.{IsMarkerAnswer}
use Rattle.ul_commands.specs.Questions.{IsForked}
use Rattle.ul_commands.specs.Reasons.{IsWhyAnswer}
use Rattle.ul_commands.specs.Relocking.{IsRelockAnswer, relock_on, relock_with}
use Rattle.ul_commands.specs.Verifying.{IsVerifyAnswer, verify_on, verify_with}
use Rattle.laws_commands.specs.Complete.{InputsAreAnswered, IsWithinLimits, LocksWithinLimits}
use Rattle.laws_commands.specs.Lower.{LowerLaws}
use Rattle.laws_commands.proofs.Answers.{one_proof_at, one_resolution}
use Rattle.laws_commands.proofs.Inputs.{one_lock_at, one_old_lock, one_machine_at, one_project_at, one_resolution_with}
use Rattle.laws_commands.proofs.Ones.{given_on, one_file}

-- ---- inputs that are read

-- `relock` reads what `lock` with its old lock reads
relocked : LowerLaws → (project folder : List ℕ) (workers : ℕ) (old : List ℕ) (m : FileMap) (l : Lock) (r : ResolutionFields) (a : Result Answer Refused)
    → (lock_at old m).gives (Ok l) → (resolution_in project folder (Some old) m).gives (Ok r)
    → (command (relock project folder workers old) m).gives a → IsRelockAnswer r l a
relocked laws project folder workers old m l r a has_lock (inl none) gives = absurd none
relocked laws project folder workers old m l r a has_lock (inr on) gives =
    let p = on.value in
    let kept : (old_lock (Some old) m).gives (Ok (kept_of l)) = inr (record { value = l; gave = has_lock; answers = refl }) in
    let read : (resolution_with folder p (kept_of l) m).gives (Ok r) =
    given_on (old_lock (Some old) m) (λ k. resolution_with folder p k m) (one_old_lock laws.locks laws.lock_faults (Some old) m) (kept_of l) kept
    (Ok r) on.answers in
    given_on (resolution_with folder p (kept_of l) m) (λ s. answer (IsRelockAnswer s l) m) (one_resolution_with laws.turns folder p (kept_of l) m) r read a
    (given_on (lock_at old m) (λ k. relock_with folder p k m) (one_lock_at laws.locks laws.lock_faults old m) l has_lock a
    (given_on (project_at project m) (λ q. relock_on folder old q m) (one_project_at laws.projects project m) p on.gave a gives))

pub inputs_are_answered : LowerLaws → InputsAreAnswered
inputs_are_answered laws = record {
  lock = λ project folder workers old m r a read gives.
      given_on (resolution_in project folder old m) (λ s. answer (IsLockAnswer s) m) (one_resolution laws project folder old m) r read a gives;
  why = λ project folder workers old m r a read gives.
      given_on (resolution_in project folder old m) (λ s. answer (IsWhyAnswer s) m) (one_resolution laws project folder old m) r read a gives;
  relock = relocked laws;
  env = λ path machine words m l x a has_lock has_machine gives.
      given_on (machine_at machine m) (λ y. answer (IsEnvAnswer l y words) m) (one_machine_at machine m) x has_machine a
      (given_on (lock_at path m) (λ k. env_on machine words k m) (one_lock_at laws.locks laws.lock_faults path m) l has_lock a gives);
  export = λ path words m l a has_lock gives.
      given_on (lock_at path m) (λ k. answer (IsExportAnswer k words) m) (one_lock_at laws.locks laws.lock_faults path m) l has_lock a gives;
  marker = λ path m bytes a has_bytes gives.
      given_on (small_file path m) (λ b. answer (IsMarkerAnswer path b) m) (one_file (codes "file-bytes") file_bytes path m) bytes has_bytes a gives;
  check = λ project folder derivation m p x r a has_project has_proof read gives.
      given_on (resolution_with folder p [] m) (λ s. answer (IsCheckAnswer s x) m) (one_resolution_with laws.turns folder p [] m) r read a
      (given_on (proof_at derivation m) (λ y. check_with folder p y m) (one_proof_at laws derivation m) x has_proof a
      (given_on (project_at project m) (λ q. check_on folder derivation q m) (one_project_at laws.projects project m) p has_project a gives));
  verify = λ project folder path m p l r a has_project has_lock read gives.
      given_on (resolution_with folder p [] m) (λ s. answer (IsVerifyAnswer s l) m) (one_resolution_with laws.turns folder p [] m) r read a
      (given_on (lock_at path m) (λ k. verify_with folder p k m) (one_lock_at laws.locks laws.lock_faults path m) l has_lock a
      (given_on (project_at project m) (λ q. verify_on folder path q m) (one_project_at laws.projects project m) p has_project a gives));
}

-- ---- the status of `lock`

-- what a lock needs for status 0
record Fits (paths : Option ℕ) (text : List ℕ) : Type 0 where
  none : paths ≡ None
  few : nat_le (length text) text_bytes ≡ true

text_fits : (b : Bool) (text : List ℕ) → b ≡ nat_le (length text) text_bytes → (text_output text).0 ≡ 0 → b ≡ true
text_fits true text same e = refl
text_fits false text same e = absurd (cc)

fits : (paths : Option ℕ) (text : List ℕ) → (lock_output paths text).0 ≡ 0 → Fits paths text
fits (Some n) text e = absurd (cc)
fits None text e = record { none = refl; few = text_fits (nat_le (length text) text_bytes) text refl e }

zero_for : (paths : Option ℕ) (text : List ℕ) → paths ≡ None → nat_le (length text) text_bytes ≡ true → (lock_output paths text).0 ≡ 0
zero_for paths text none few = cc

at_most : (n : ℕ) → nat_le n text_bytes ≡ true → n ≤ text_bytes
at_most n h = grind arith

not_above : (n : ℕ) → n ≤ text_bytes → nat_le n text_bytes ≡ true
not_above n h = grind arith

refused_status : (b : Bool) (region : Plain) (text : List ℕ) → b ≡ is_printable region → (refusal_output region text).0 ≡ 0 → ⊥
refused_status true region text same e = cc
refused_status false region text same e = cc

-- where a lock's answer has status 0, all of its markers are printable
none_over : (o : Option ℕ) (l : Lock) (n : ℕ) → (output_of (answer_where o l n)).0 ≡ 0 → o ≡ None
none_over None l n e = refl
none_over (Some paths) l n e = absurd (let four : 4 ≡ 0 = e in cc)

-- and then it is the lock
is_lock : (l : Lock) (n : ℕ) → first_over (markers_of l) ≡ None → answer_of l n ≡ locked l n
is_lock l n none = ap (λ o. answer_where o l n) none

-- a lock that is answered
served : (r : ResolutionFields) (a : Result Answer Refused) (leaves : List TreeLeaf) → IsForked r (leaves_are leaves) → IsLocked r leaves a
    → (printed a).0 ≡ 0 → IsWithinLimits r a
served r a leaves forks h e =
    let l = h.lock in
    let n = length leaves in
    let none = none_over (first_over (markers_of l)) l n (ap (λ b. (printed b).0) (sym h.is) ∙ e) in
    let is : a ≡ Ok (locked l n) = h.is ∙ ap (λ x. Ok x) (is_lock l n none) in
    let zero : (written l).0 ≡ 0 = ap (λ b. (printed b).0) (sym is) ∙ e in
    let found = fits (first_over (markers_of l)) (lock_text l) zero in
    record { leaves = leaves; are_forks = forks; locked = h; is = is; paths = none; bytes = at_most (length (lock_text l)) found.few }

-- neither a refused fork nor an untold one has status 0
fork_status : (told : Bool) (r : ResolutionFields) (fork : TreeRefusal) (a : Result Answer Refused) → RefusedWhere told r fork a → (printed a).0 ≡ 0 → ⊥
fork_status true r fork a h e =
    refused_status (is_printable fork.region) fork.region (refusal_text fork.path fork.region ++ h.lines) refl (ap (λ b. (printed b).0) (sym h.is) ∙ e)
fork_status false r fork a h e = let four : 4 ≡ 0 = ap (λ b. (printed b).0) (sym h) ∙ e in cc

zero_where : (r : ResolutionFields) (a : Result Answer Refused) (f : TreeAnswer) → IsForked r f → LocksFor r f a → (printed a).0 ≡ 0
    → IsWithinLimits r a
zero_where r a (leaves_are leaves) forks h e = served r a leaves forks h e
zero_where r a (refused_at fork) forks h e = absurd (fork_status (is_printable fork.region) r fork a h e)
zero_where r a (too_many count) forks h e = absurd (let four : 4 ≡ 0 = ap (λ b. (printed b).0) (sym h) ∙ e in cc)

within_is_zero : (r : ResolutionFields) (a : Result Answer Refused) → IsWithinLimits r a → (printed a).0 ≡ 0
within_is_zero r a h =
    let l = h.locked.lock in
    ap (λ b. (printed b).0) h.is
    ∙ zero_for (first_over (markers_of l)) (lock_text l) h.paths (not_above (length (lock_text l)) h.bytes)

pub locks_within_limits : LocksWithinLimits
locks_within_limits r a h = (zero_where r a h.forked h.are_forks h.locks, within_is_zero r a)
