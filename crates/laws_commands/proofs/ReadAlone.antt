-- The answer to what is asked depends on what is read for it alone.
use Rattle.std.proofs.Common.{ℕ, List, []}
use Rattle.std.specs.Prelude.{codes}
use Rattle.ul_load.specs.Loading.{file_bytes}
use Rattle.ul_inputs.specs.Inputs.{answer, large_file, small_file, text_bytes}
use Rattle.ul_inputs.specs.Locks.{kept_of, lock_at}
use Rattle.ul_inputs.specs.Machines.{machine_at}
use Rattle.ul_inputs.specs.Projects.{project_at}
use Rattle.ul_inputs.specs.Resolutions.{resolution_in, resolution_with}
use Rattle.laws_frames.specs.Frames.{InputsByWhatIsRead, IsByWhatIsRead}
use Rattle.laws_frames.proofs.ForCallers.{by_present, by_values, goes_on}
use Rattle.ul_lock_commands.specs.Environments.{IsEnvAnswer, env_on}
use Rattle.ul_lock_commands.specs.Exports.{IsExportAnswer}
use Rattle.ul_commands.specs.Asked.{usage, lock, why, relock, gen, env, export, marker, check, verify}
use Rattle.ul_commands.specs.Checking.{IsCheckAnswer, check_on, check_with, proof_at, proof_said}
use Rattle.ul_commands.specs.Locking.{IsLockAnswer}
use Rattle.ul_commands.specs.Markers.{IsMarkerAnswer}
use Rattle.ul_commands.specs.Reasons.{IsWhyAnswer}
use Rattle.ul_commands.specs.Relocking.{IsRelockAnswer, relock_on, relock_with}
use Rattle.ul_commands.specs.Verifying.{IsVerifyAnswer, verify_on, verify_with}
use Rattle.laws_commands.specs.Reads.{AnswersByWhatIsRead}

-- the derivation of a file
by_derivation : (path : List ℕ) → IsByWhatIsRead (proof_at path)
by_derivation path =
    goes_on (large_file path) (proof_said path) (by_present (codes "text-bytes") text_bytes path) (λ text. by_values _)

pub answers_by_what_is_read : InputsByWhatIsRead → AnswersByWhatIsRead
answers_by_what_is_read inputs usage = by_values _
answers_by_what_is_read inputs (lock project folder workers old) =
    goes_on (resolution_in project folder old) (λ r. answer (IsLockAnswer r)) (inputs.resolution project folder old) (λ r. by_values _)
answers_by_what_is_read inputs (why project folder workers old) =
    goes_on (resolution_in project folder old) (λ r. answer (IsWhyAnswer r)) (inputs.resolution project folder old) (λ r. by_values _)
answers_by_what_is_read inputs (relock project folder workers old) =
    goes_on (project_at project) (relock_on folder old) (inputs.project project)
    (λ p. goes_on (lock_at old) (relock_with folder p) (inputs.lock old)
    (λ l. goes_on (resolution_with folder p (kept_of l)) (λ r. answer (IsRelockAnswer r l)) (inputs.catalog folder p (kept_of l)) (λ r. by_values _)))
answers_by_what_is_read inputs (gen seed size workers) =
    λ m n agree. record { gives = λ a. ((λ h. h), (λ h. h)); reads = λ path. ((λ h. h), (λ h. h)) }
answers_by_what_is_read inputs (env path machine words) =
    goes_on (lock_at path) (env_on machine words) (inputs.lock path)
    (λ l. goes_on (machine_at machine) (λ x. answer (IsEnvAnswer l x words)) (inputs.machine machine) (λ x. by_values _))
answers_by_what_is_read inputs (export path words) =
    goes_on (lock_at path) (λ l. answer (IsExportAnswer l words)) (inputs.lock path) (λ l. by_values _)
answers_by_what_is_read inputs (marker path) =
    goes_on (small_file path) (λ bytes. answer (IsMarkerAnswer path bytes)) (by_present (codes "file-bytes") file_bytes path)
    (λ bytes. by_values _)
answers_by_what_is_read inputs (check project folder derivation) =
    goes_on (project_at project) (check_on folder derivation) (inputs.project project)
    (λ p. goes_on (proof_at derivation) (check_with folder p) (by_derivation derivation)
    (λ x. goes_on (resolution_with folder p []) (λ r. answer (IsCheckAnswer r x)) (inputs.catalog folder p []) (λ r. by_values _)))
answers_by_what_is_read inputs (verify project folder path) =
    goes_on (project_at project) (verify_on folder path) (inputs.project project)
    (λ p. goes_on (lock_at path) (verify_with folder p) (inputs.lock path)
    (λ l. goes_on (resolution_with folder p []) (λ r. answer (IsVerifyAnswer r l)) (inputs.catalog folder p []) (λ r. by_values _)))
