-- Inputs that are read are answered, and by which status.
use Rattle.std.specs.Prelude.{◌≡◌, ◌≤◌, ◌↔◌, ℕ, List, [], length, Option, Some, None, Result, Ok}
use Rattle.ul_files.specs.Files.{FileMap}
use Rattle.ul_comparison.specs.Machines.{MachineFields}
use Rattle.ul_project.specs.Fields.{ProjectFields}
use Rattle.ul_generations.specs.Generations.{leaves_are}
use Rattle.ul_forks.specs.Headline.{TreeLeaf}
use Rattle.ul_lock.specs.declared.parts.Lock.{Lock}
use Rattle.ul_lock_write.specs.Markers.{first_over, markers_of}
use Rattle.ul_lock_write.specs.Texts.{lock_text}
use Rattle.ul_report_read.specs.declared.proof.Proof.{Proof}
use Rattle.ul_inputs.specs.Inputs.{small_file, text_bytes}
use Rattle.ul_inputs.specs.Locks.{lock_at}
use Rattle.ul_inputs.specs.Machines.{machine_at}
use Rattle.ul_inputs.specs.Projects.{project_at}
use Rattle.ul_inputs.specs.Refused.{Refused}
use Rattle.ul_inputs.specs.Resolutions.{ResolutionFields, resolution_in, resolution_with}
use Rattle.ul_answers.specs.Answer as answers
use Rattle.ul_answers.specs.Answer.{Answer}
use Rattle.ul_answers.specs.Printed.{printed}
use Rattle.ul_lock_commands.specs.Environments.{IsEnvAnswer}
use Rattle.ul_lock_commands.specs.Exports.{IsExportAnswer}
use Rattle.ul_commands.specs.Asked.{check, env, export, lock, marker, relock, verify, why}
use Rattle.ul_commands.specs.Checking.{IsCheckAnswer, proof_at}
use Rattle.ul_commands.specs.Commands.{command}
use Rattle.ul_commands.specs.Locking.{IsLockAnswer, IsLocked}
use Rattle.ul_commands.specs.Markers.{IsMarkerAnswer}
use Rattle.ul_commands.specs.Questions.{IsForked}
use Rattle.ul_commands.specs.Reasons.{IsWhyAnswer}
use Rattle.ul_commands.specs.Relocking.{IsRelockAnswer}
use Rattle.ul_commands.specs.Verifying.{IsVerifyAnswer}

-- where each input of a command is read, it answers what the inputs say, and none of them is refused
pub record InputsAreAnswered : Type 0 where
  pub lock : (project folder : List ℕ) (workers : ℕ) (old : Option (List ℕ)) (m : FileMap) (r : ResolutionFields)
      (a : Result Answer Refused)
      → (resolution_in project folder old m).gives (Ok r)
      → (command (lock project folder workers old) m).gives a → IsLockAnswer r a
  pub why : (project folder : List ℕ) (workers : ℕ) (old : Option (List ℕ)) (m : FileMap) (r : ResolutionFields)
      (a : Result Answer Refused)
      → (resolution_in project folder old m).gives (Ok r)
      → (command (why project folder workers old) m).gives a → IsWhyAnswer r a
  pub relock : (project folder : List ℕ) (workers : ℕ) (old : List ℕ) (m : FileMap) (l : Lock) (r : ResolutionFields)
      (a : Result Answer Refused)
      → (lock_at old m).gives (Ok l) → (resolution_in project folder (Some old) m).gives (Ok r)
      → (command (relock project folder workers old) m).gives a → IsRelockAnswer r l a
  pub env : (path machine : List ℕ) (words : List (List ℕ)) (m : FileMap) (l : Lock) (x : MachineFields)
      (a : Result Answer Refused)
      → (lock_at path m).gives (Ok l) → (machine_at machine m).gives (Ok x)
      → (command (env path machine words) m).gives a → IsEnvAnswer l x words a
  pub export : (path : List ℕ) (words : List (List ℕ)) (m : FileMap) (l : Lock) (a : Result Answer Refused)
      → (lock_at path m).gives (Ok l) → (command (export path words) m).gives a → IsExportAnswer l words a
  pub marker : (path : List ℕ) (m : FileMap) (bytes : List ℕ) (a : Result Answer Refused)
      → (small_file path m).gives (Ok bytes) → (command (marker path) m).gives a → IsMarkerAnswer path bytes a
  pub check : (project folder derivation : List ℕ) (m : FileMap) (p : ProjectFields) (x : Proof) (r : ResolutionFields)
      (a : Result Answer Refused)
      → (project_at project m).gives (Ok p) → (proof_at derivation m).gives (Ok x)
      → (resolution_with folder p [] m).gives (Ok r)
      → (command (check project folder derivation) m).gives a → IsCheckAnswer r x a
  pub verify : (project folder path : List ℕ) (m : FileMap) (p : ProjectFields) (l : Lock) (r : ResolutionFields)
      (a : Result Answer Refused)
      → (project_at project m).gives (Ok p) → (lock_at path m).gives (Ok l)
      → (resolution_with folder p [] m).gives (Ok r)
      → (command (verify project folder path) m).gives a → IsVerifyAnswer r l a

-- no fork is refused, the lock is answered, and its markers and its text are within their limits
pub record IsWithinLimits (r : ResolutionFields) (a : Result Answer Refused) : Type 0 where
  pub leaves : List TreeLeaf
  pub are_forks : IsForked r (leaves_are leaves)
  pub locked : IsLocked r leaves a
  pub is : a ≡ Ok (answers.locked locked.lock (length leaves))
  pub paths : first_over (markers_of locked.lock) ≡ None
  pub bytes : length (lock_text locked.lock) ≤ text_bytes

-- `lock` ends with status 0 exactly where this holds
abbrev pub LocksWithinLimits : Type 0
LocksWithinLimits = (r : ResolutionFields) (a : Result Answer Refused) → IsLockAnswer r a
    → ((printed a).0 ≡ 0) ↔ IsWithinLimits r a
