-- Each question has an answer on every map of files.
use Rattle.std.proofs.Common.{ℕ, List, [], Option, Some, None, Result, Ok, refl, inr}
use Rattle.std.specs.Prelude.{codes}
use Rattle.ul_files.specs.Files.{FileMap}
use Rattle.laws_trees.specs.Trees.{TruthTrees}
use Rattle.ul_load.specs.Laws.{LoadingEnds}
use Rattle.ul_project.specs.Fields.{ProjectFields}
use Rattle.ul_load.specs.Loading.{file_bytes}
use Rattle.ul_inputs.specs.Inputs.{answer, large_file, small_file}
use Rattle.ul_inputs.specs.Locks.{kept_of, lock_at}
use Rattle.ul_inputs.specs.Machines.{machine_at}
use Rattle.ul_inputs.specs.Projects.{project_at}
use Rattle.ul_inputs.specs.Refused.{Refused}
use Rattle.ul_inputs.specs.Resolutions.{ResolutionFields, resolution_in, resolution_with}
use Rattle.ul_answers.specs.Answer as answers
use Rattle.ul_answers.specs.Answer.{Answer}
use Rattle.ul_lock_commands.specs.Environments.{IsEnvAnswer, env_on}
use Rattle.ul_lock_commands.specs.Exports.{IsExportAnswer}
use Rattle.ul_commands.specs.Asked.{check, env, export, gen, lock, marker, relock, usage, verify, why}
use Rattle.ul_commands.specs.Checking.{IsCheckAnswer, check_on, check_with, proof_at, proof_said}
use Rattle.ul_commands.specs.Commands.{command}
use Rattle.ul_commands.specs.Generating.{counted_for, gen_said, generated_files, index_folder, project_path}
use Rattle.ul_commands.specs.Locking.{IsLockAnswer, lock_of}
use Rattle.ul_commands.specs.Markers.{IsMarkerAnswer, markers_at}
use Rattle.ul_commands.specs.Reasons.{IsWhyAnswer}
use Rattle.ul_commands.specs.Relocking.{IsRelockAnswer, relock_on, relock_with}
use Rattle.ul_commands.specs.Verifying.{IsVerifyAnswer, verify_on, verify_with}
use Rattle.laws_given.specs.Given.{GivenHasTexts, GivenIsResolution}
use Rattle.laws_given.proofs.ForCallers.{on_ok}
use Rattle.ul_report_read.specs.declared.proof.Proof.{Proof}
use Rattle.ul_lock.specs.Region.{IsRegion}
use Rattle.ul_lock.specs.WellFormed.{IsWellFormed}
use Rattle.ul_lock.specs.declared.parts.Lock.{Lock}
use Rattle.laws_existence.specs.Answers.{AnswersExist}
use Rattle.laws_existence.specs.Inputs.{GivenIsAskable, InputsAreGiven, IsGiven}
use Rattle.laws_existence.proofs.Checks.{CheckLaws, check_answered, verify_answered}
use Rattle.laws_existence.proofs.Forks.{IsKnown}
use Rattle.laws_existence.proofs.Given.{machine_given, resolution_with_given}
use Rattle.laws_existence.proofs.LockAnswers.{WalkLaws, env_answered, export_answered}
use Rattle.laws_existence.proofs.LockTexts.{given_lock}
use Rattle.laws_existence.proofs.Locks.{LockLaws, lock_answered}
use Rattle.laws_existence.proofs.MarkerFiles.{marker_answered}
use Rattle.laws_existence.proofs.Reasons.{ReasonLaws, why_answered}
use Rattle.laws_existence.proofs.Relocks.{relock_answered}
use Rattle.laws_existence.proofs.Sequenced.{given_file, given_just, given_then}

-- what is known of what files give
pub record GivenLaws : Type 0 where
  pub inputs : InputsAreGiven
  pub ends : LoadingEnds
  pub resolution : GivenIsResolution
  pub texts : GivenHasTexts
  pub askable : GivenIsAskable

-- what answers rest on
pub record AnswerLaws : Type 0 where
  pub given : GivenLaws
  pub locks : LockLaws
  pub reasons : ReasonLaws
  pub walks : WalkLaws
  pub checks : CheckLaws
  pub trees : TruthTrees

known : GivenLaws → (project folder : List ℕ) (old : Option (List ℕ)) (m : FileMap) (r : ResolutionFields)
    → (resolution_in project folder old m).gives (Ok r) → IsKnown r
known laws project folder old m r gave = record {
  resolution = laws.resolution project folder old m r gave;
  texts = laws.texts project folder old m r gave;
  asked = laws.askable project folder old m r gave;
}

-- what is said of a project that is given, without an old lock, is known
known_with : GivenLaws → (project folder : List ℕ) (m : FileMap) (p : ProjectFields) (r : ResolutionFields)
    → (project_at project m).gives (Ok p) → (resolution_with folder p [] m).gives (Ok r) → IsKnown r
known_with laws project folder m p r had gave =
    known laws project folder None m r
    (inr (record { value = p; gave = had; answers = inr (record { value = []; gave = refl; answers = gave }) }))

-- ---- `lock` and `why`

lock_given : AnswerLaws → (project folder : List ℕ) (old : Option (List ℕ)) (m : FileMap)
    → IsGiven (lock_of project folder old) m
lock_given laws project folder old m =
    given_then (resolution_in project folder old) (λ r. answer (IsLockAnswer r)) m
    (laws.given.inputs.resolution project folder old m)
    (λ r gave. lock_answered laws.locks r (known laws.given project folder old m r gave))

why_given : AnswerLaws → (project folder : List ℕ) (workers : ℕ) (old : Option (List ℕ)) (m : FileMap)
    → (a : Result Answer Refused) × (command (why project folder workers old) m).gives a
why_given laws project folder workers old m =
    given_then (resolution_in project folder old) (λ r. answer (IsWhyAnswer r)) m
    (laws.given.inputs.resolution project folder old m)
    (λ r gave. why_answered laws.reasons r (known laws.given project folder old m r gave))

gen_given : AnswerLaws → (seed size : ℕ) (m : FileMap) → IsGiven (gen_said seed size) m
gen_given laws seed size m =
    let found = lock_given laws project_path index_folder None (generated_files seed size) in
    (counted_for found.0, record { found = found.0; gave = found.1; is = refl })

-- ---- `env` and `export`

env_given : AnswerLaws → (path machine : List ℕ) (words : List (List ℕ)) (m : FileMap)
    → (a : Result Answer Refused) × (command (env path machine words) m).gives a
env_given laws path machine words m =
    given_then (lock_at path) (env_on machine words) m (laws.given.inputs.lock path m)
    (λ l gave. given_then (machine_at machine) (λ x. answer (IsEnvAnswer l x words)) m (machine_given machine m)
    (λ x said. env_answered laws.walks l x words (given_lock path m l gave)))

export_given : AnswerLaws → (path : List ℕ) (words : List (List ℕ)) (m : FileMap)
    → (a : Result Answer Refused) × (command (export path words) m).gives a
export_given laws path words m =
    given_then (lock_at path) (λ l. answer (IsExportAnswer l words)) m (laws.given.inputs.lock path m)
    (λ l gave. export_answered laws.walks l words (given_lock path m l gave))

-- ---- `marker`

marker_given : AnswerLaws → (path : List ℕ) (m : FileMap) → IsGiven (markers_at path) m
marker_given laws path m =
    given_then (small_file path) (λ bytes. answer (IsMarkerAnswer path bytes)) m (given_file (codes "file-bytes") file_bytes path m)
    (λ bytes gave. marker_answered laws.trees path bytes)

-- ---- `check` and `verify`

proof_region : (path : List ℕ) (m : FileMap) (x : Proof) → (proof_at path m).gives (Ok x) → IsRegion x.region
proof_region path m x gave =
    let said = on_ok (large_file path) (proof_said path) m x gave in said.answers.is_proof.region

check_behind : AnswerLaws → (project folder : List ℕ) (m : FileMap) (p : ProjectFields)
    → (project_at project m).gives (Ok p)
    → (x : Proof) → IsRegion x.region → IsGiven (check_with folder p x) m
check_behind laws project folder m p had x region =
    given_then (resolution_with folder p []) (λ r. answer (IsCheckAnswer r x)) m
    (resolution_with_given laws.given.ends folder p [] m)
    (λ r gave. check_answered laws.checks r x (known_with laws.given project folder m p r had gave) region)

check_given : AnswerLaws → (project folder derivation : List ℕ) (m : FileMap)
    → (a : Result Answer Refused) × (command (check project folder derivation) m).gives a
check_given laws project folder derivation m =
    given_then (project_at project) (check_on folder derivation) m (laws.given.inputs.project project m)
    (λ p had. given_then (proof_at derivation) (check_with folder p) m (laws.given.inputs.derivation derivation m)
    (λ x said. check_behind laws project folder m p had x (proof_region derivation m x said)))

verify_behind : AnswerLaws → (project folder : List ℕ) (m : FileMap) (p : ProjectFields)
    → (project_at project m).gives (Ok p) → (l : Lock) → IsWellFormed l → IsGiven (verify_with folder p l) m
verify_behind laws project folder m p had l well =
    given_then (resolution_with folder p []) (λ r. answer (IsVerifyAnswer r l)) m
    (resolution_with_given laws.given.ends folder p [] m)
    (λ r gave. verify_answered laws.checks r l (known_with laws.given project folder m p r had gave) well)

verify_given : AnswerLaws → (project folder path : List ℕ) (m : FileMap)
    → (a : Result Answer Refused) × (command (verify project folder path) m).gives a
verify_given laws project folder path m =
    given_then (project_at project) (verify_on folder path) m (laws.given.inputs.project project m)
    (λ p had. given_then (lock_at path) (verify_with folder p) m (laws.given.inputs.lock path m)
    (λ l said. verify_behind laws project folder m p had l (given_lock path m l said).is_text.well_formed))

-- ---- `relock`

-- what is said of a project and an old lock that are given is known
known_of : GivenLaws → (project folder old : List ℕ) (m : FileMap) (p : ProjectFields) (l : Lock) (r : ResolutionFields)
    → (project_at project m).gives (Ok p) → (lock_at old m).gives (Ok l)
    → (resolution_with folder p (kept_of l) m).gives (Ok r) → IsKnown r
known_of laws project folder old m p l r had said gave =
    known laws project folder (Some old) m r
    (inr (record {
      value = p;
      gave = had;
      answers = inr (record {
        value = kept_of l;
        gave = inr (record { value = l; gave = said; answers = refl });
        answers = gave;
      });
    }))

relock_behind : AnswerLaws → (project folder old : List ℕ) (m : FileMap) (p : ProjectFields)
    → (project_at project m).gives (Ok p) → (l : Lock) → (lock_at old m).gives (Ok l) → IsGiven (relock_with folder p l) m
relock_behind laws project folder old m p had l said =
    given_then (resolution_with folder p (kept_of l)) (λ r. answer (IsRelockAnswer r l)) m
    (resolution_with_given laws.given.ends folder p (kept_of l) m)
    (λ r gave. relock_answered laws.locks laws.checks.verdicts r l (known_of laws.given project folder old m p l r had said gave)
    (given_lock old m l said).is_text.well_formed)

relock_given : AnswerLaws → (project folder : List ℕ) (workers : ℕ) (old : List ℕ) (m : FileMap)
    → (a : Result Answer Refused) × (command (relock project folder workers old) m).gives a
relock_given laws project folder workers old m =
    given_then (project_at project) (relock_on folder old) m (laws.given.inputs.project project m)
    (λ p had. given_then (lock_at old) (relock_with folder p) m (laws.given.inputs.lock old m)
    (λ l said. relock_behind laws project folder old m p had l said))

-- ---- all of them

pub answers_exist : AnswerLaws → AnswersExist
answers_exist laws usage m = given_just (Ok answers.usage) m
answers_exist laws (lock project folder workers old) m = lock_given laws project folder old m
answers_exist laws (why project folder workers old) m = why_given laws project folder workers old m
answers_exist laws (relock project folder workers old) m = relock_given laws project folder workers old m
answers_exist laws (gen seed size workers) m = gen_given laws seed size m
answers_exist laws (env path machine words) m = env_given laws path machine words m
answers_exist laws (export path words) m = export_given laws path words m
answers_exist laws (marker path) m = marker_given laws path m
answers_exist laws (check project folder derivation) m = check_given laws project folder derivation m
answers_exist laws (verify project folder path) m = verify_given laws project folder path m
