-- What `verify` accepts, and what `env` prints of lock files.
use Rattle.std.proofs.Common.{◌≡◌, ◌∙◌, ◌++◌, ℕ, List, [], Bool, true, false, Option, Some, None, Result, Ok, refl, ap, sym, subst, inl, inr}
use Rattle.ul_files.specs.Files.{FileMap}
use Rattle.ul_comparison.specs.Machines.{MachineFields}
use Rattle.ul_project.specs.Fields.{ProjectFields}
use Rattle.ul_lock.specs.declared.parts.Lock.{Lock}
use Rattle.ul_lock.specs.WellFormed.{IsWellFormed}
use Rattle.ul_filter.specs.Comparisons.{lock_atoms, machine_world}
use Rattle.ul_filter.specs.Headline.{is_supported_at}
use Rattle.ul_inputs.specs.Inputs.{answer, large_file}
use Rattle.ul_inputs.specs.Locks.{lock_at, lock_said}
use Rattle.ul_inputs.specs.Machines.{machine_at}
use Rattle.ul_inputs.specs.Projects.{project_at}
use Rattle.ul_inputs.specs.Refused.{Refused}
use Rattle.ul_inputs.specs.Resolutions.{ResolutionFields, resolution_in, resolution_with}
use Rattle.ul_answers.specs.Answer as answers
use Rattle.ul_answers.specs.Printed.{printed}
use Rattle.ul_lock_commands.specs.Environments.{GivesFor, GivesWhere, IsEnvAnswer, env_on}
use Rattle.ul_lock_commands.specs.Words.{first_other}
use Rattle.ul_report_read.specs.declared.proof.Proof.{Proof}
use Rattle.ul_commands.specs.Asked.{check, env, lock, verify}
use Rattle.ul_commands.specs.Checking.{IsCheckAnswer, check_on, check_with, proof_at}
use Rattle.ul_commands.specs.Commands.{command}
use Rattle.ul_commands.specs.Verifying.{IsVerifyAnswer, verify_on, verify_with}
use Rattle.laws_comparisons.specs.Comparisons.{FilesSayMachines, LocksHaveAtoms, MachinesHaveWorlds}
use Rattle.laws_given.specs.Given.{GivenHasTexts, GivenIsResolution}
use Rattle.laws_given.proofs.ForCallers.{on_ok}
use Rattle.laws_commands.specs.Complete.{LocksWithinLimits}
use Rattle.laws_commands.specs.Environments.{EnvironmentsOfFiles}
use Rattle.laws_commands.specs.Reasons.{AcceptedAreUnserved}
use Rattle.laws_commands.specs.Statuses.{EndsRightly, StatusesOfFiles, StatusesOfVerifiedFiles}
use Rattle.laws_commands.specs.Verified.{EnvironmentsOfVerifiedFiles, VerifiedFilesAreSound}
use Rattle.laws_commands.specs.WellFormed.{LocksAreWellFormed}
use Rattle.laws_promises.specs.Promises.{AcceptedAreRight, EnvironmentsAreRight, VerifiedAreRight, VerifiedEnvironmentsAreRight, world_with}
use Rattle.laws_promises.proofs.OfAnswers.{asked_answer, on_zero, other_status}
use Rattle.laws_promises.proofs.OfLocks.{printed_lock}
use Rattle.laws_promises.proofs.OfMachines.{has_all, machine_is, world_is}

-- ---- `env`

-- the answer with status 0 is an environment of this text
record PrintsEnvironment (a : Result answers.Answer Refused) (text : List ℕ) : Type 0 where
  lines : List ℕ
  is : a ≡ Ok (answers.environment lines)
  same : text ≡ lines

for_words : (l : Lock) (x : MachineFields) (words : List (List ℕ)) (other : Option (List ℕ)) (a : Result answers.Answer Refused) (text : List ℕ)
    → GivesFor l x words other a → 0 ≡ (printed a).0 → text ≡ (printed a).1 → PrintsEnvironment a text
for_words l x words None a text h status e = record { lines = h.text; is = h.is; same = e ∙ ap (λ b. (printed b).1) h.is }
for_words l x words (Some word) a text h status e = absurd (other_status 0 8 a _ refl refl status h)

for_machine : (supported : Bool) (l : Lock) (x : MachineFields) (words : List (List ℕ)) (a : Result answers.Answer Refused) (text : List ℕ)
    → GivesWhere supported l x words a → 0 ≡ (printed a).0 → text ≡ (printed a).1 → PrintsEnvironment a text
for_machine false l x words a text h status e = absurd (other_status 0 8 a _ refl refl status h)
for_machine true l x words a text h status e = for_words l x words (first_other l words) a text h status e

printed_environment : (path machine : List ℕ) (words : List (List ℕ)) (m : FileMap) (a : Result answers.Answer Refused) (text : List ℕ)
    → (command (env path machine words) m).gives a → 0 ≡ (printed a).0 → text ≡ (printed a).1 → PrintsEnvironment a text
printed_environment path machine words m a text gives status e =
    let locked = on_zero (lock_at path m) (λ l. env_on machine words l m) a gives status in
    let on = on_zero (machine_at machine m) (λ x. answer (IsEnvAnswer locked.value x words) m) a locked.answers status in
    for_machine (is_supported_at locked.value (machine_world locked.value on.value)) locked.value on.value words a text on.answers status e

-- `env` gave the text
given_environment : (others : List (List ℕ)) (m : FileMap) (text path machine : List ℕ) (words : List (List ℕ)) (a : Result answers.Answer Refused)
    → (command (env path machine words) m).gives a → 0 ≡ (printed a).0 → text ≡ (printed a).1
    → (command (env path machine words) m).gives (Ok (answers.environment text))
given_environment others m text path machine words a gives status e =
    let p = printed_environment path machine words m a text gives status e in
    let same : a ≡ Ok (answers.environment text) = p.is ∙ ap (λ t. Ok (answers.environment t)) (sym p.same) in
    subst (λ (x : Result answers.Answer Refused). (command (env path machine words) m).gives x) same gives

pub environments_are_right : MachinesHaveWorlds → FilesSayMachines → LocksHaveAtoms → GivenIsResolution → GivenHasTexts → LocksAreWellFormed
    → LocksWithinLimits → EnvironmentsOfFiles → StatusesOfFiles → EnvironmentsAreRight
environments_are_right worlds files atoms given had formed limits lines statuses words others before now bytes text project folder status
    workers old path machine extras r x q v is there prints gave machined =
    let asked = asked_answer words before 0 bytes (lock project folder workers old) q is in
    let p = printed_lock limits project folder old before asked.answer bytes asked.gives asked.prints.0 asked.prints.1 in
    let gives = subst (λ (y : Result answers.Answer Refused). (command (lock project folder workers old) before).gives y) p.is asked.gives in
    let env_asked = asked_answer others now status text (env path machine extras) v prints in
    let at = there ∙ ap (λ (t : List ℕ). Some t) p.text in
    let resolution = given project folder old before p.resolution p.gave in
    let well = formed p.resolution p.lock p.forks resolution (had project folder old before p.resolution p.gave) p.answers in
    let is_machine = machine_is files machine now x machined in
    record {
      lock = p.lock;
      is = p.text;
      right = λ comparisons own. record {
        ends =
            subst (EndsRightly r.project (world_with p.lock x comparisons) extras) (sym env_asked.prints.0)
            (statuses project folder old workers path machine extras before now r p.lock p.forks x env_asked.answer
            (lock_atoms p.lock ++ comparisons) gave gives at p.few machined (has_all p.lock comparisons) own env_asked.gives);
        lists = λ ended all.
            lines project folder old workers path machine extras before now r p.lock p.forks x text (lock_atoms p.lock ++ comparisons) gave gives
            at machined (has_all p.lock comparisons) (world_is worlds atoms p.lock x comparisons well is_machine all) own
            (given_environment others now text path machine extras env_asked.answer env_asked.gives (sym ended ∙ env_asked.prints.0) env_asked.prints.1);
      };
    }

-- ---- `verify`

-- the answer with status 0 is that the lock is verified
verified_is : (r : ResolutionFields) (l : Lock) (a : Result answers.Answer Refused) → IsVerifyAnswer r l a → 0 ≡ (printed a).0 → a ≡ Ok answers.verified
verified_is r l a (inl h) status = h.is
verified_is r l a (inr (inl h)) status = absurd (other_status 0 9 a _ refl refl status h.is)
verified_is r l a (inr (inr (inl h))) status = absurd (other_status 0 9 a _ refl refl status h.is)
verified_is r l a (inr (inr (inr h))) status = absurd (other_status 0 9 a _ refl refl status h.is)

-- what `verify` read, and that it accepted it
pub record Accepts (project folder path : List ℕ) (m : FileMap) : Type 0 where
  pub resolution : ResolutionFields
  pub gave : (resolution_in project folder None m).gives (Ok resolution)
  pub lock : Lock
  pub read : (lock_at path m).gives (Ok lock)
  pub accepts : (command (verify project folder path) m).gives (Ok answers.verified)

-- a resolution without an old lock
without_old : (project folder : List ℕ) (m : FileMap) (p : ProjectFields) (r : ResolutionFields) → (project_at project m).gives (Ok p)
    → (resolution_with folder p [] m).gives (Ok r) → (resolution_in project folder None m).gives (Ok r)
without_old project folder m p r said made =
    inr (record { value = p; gave = said; answers = inr (record { value = []; gave = refl; answers = made }) })

pub accepted_file : (project folder path : List ℕ) (m : FileMap) (a : Result answers.Answer Refused)
    → (command (verify project folder path) m).gives a → 0 ≡ (printed a).0 → Accepts project folder path m
accepted_file project folder path m a gives status =
    let said = on_zero (project_at project m) (λ p. verify_on folder path p m) a gives status in
    let locked = on_zero (lock_at path m) (λ l. verify_with folder said.value l m) a said.answers status in
    let on = on_zero (resolution_with folder said.value [] m) (λ r. answer (IsVerifyAnswer r locked.value) m) a locked.answers status in
    let is = verified_is on.value locked.value a on.answers status in
    record {
      resolution = on.value;
      gave = without_old project folder m said.value on.value said.gave on.gave;
      lock = locked.value;
      read = locked.gave;
      accepts = subst (λ (x : Result answers.Answer Refused). (command (verify project folder path) m).gives x) is gives;
    }

pub verified_are_right : VerifiedFilesAreSound → VerifiedAreRight
verified_are_right law words m bytes project folder path q is =
    let asked = asked_answer words m 0 bytes (verify project folder path) q is in
    let p = accepted_file project folder path m asked.answer asked.gives asked.prints.0 in
    record {
      resolution = p.resolution;
      given = p.gave;
      lock = p.lock;
      read = p.read;
      sound = law project folder path m p.resolution p.lock p.gave p.read p.accepts;
    }

-- a lock that is read is well formed
read_well : (path : List ℕ) (m : FileMap) (l : Lock) → (lock_at path m).gives (Ok l) → IsWellFormed l
read_well path m l gave = (on_ok (large_file path) (lock_said path) m l gave).answers.well_formed

pub verified_environments_are_right : MachinesHaveWorlds → FilesSayMachines → LocksHaveAtoms → EnvironmentsOfVerifiedFiles
    → StatusesOfVerifiedFiles → VerifiedEnvironmentsAreRight
verified_environments_are_right worlds files atoms lines statuses words others m bytes text project folder path machine status extras r l x
    comparisons q v is prints gave read machined own =
    let asked = asked_answer words m 0 bytes (verify project folder path) q is in
    let p = accepted_file project folder path m asked.answer asked.gives asked.prints.0 in
    let env_asked = asked_answer others m status text (env path machine extras) v prints in
    record {
      ends =
          subst (EndsRightly r.project (world_with l x comparisons) extras) (sym env_asked.prints.0)
          (statuses project folder path machine extras m r l x env_asked.answer (lock_atoms l ++ comparisons) gave read machined p.accepts
          (has_all l comparisons) own env_asked.gives);
      lists = λ ended all.
          lines project folder path machine extras m r l x text (lock_atoms l ++ comparisons) gave read machined p.accepts
          (has_all l comparisons) (world_is worlds atoms l x comparisons (read_well path m l read) (machine_is files machine m x machined) all) own
          (given_environment others m text path machine extras env_asked.answer env_asked.gives (sym ended ∙ env_asked.prints.0) env_asked.prints.1);
    }

-- ---- `check`

-- the answer with status 0 is that the derivation is accepted
accepted_is : (r : ResolutionFields) (x : Proof) (a : Result answers.Answer Refused) → IsCheckAnswer r x a → 0 ≡ (printed a).0 → a ≡ Ok answers.accepted
accepted_is r x a (inl h) status = h.is
accepted_is r x a (inr h) status = absurd (other_status 0 9 a _ refl refl status h.is)

pub accepted_are_right : AcceptedAreUnserved → AcceptedAreRight
accepted_are_right law words m bytes project folder derivation q is =
    let asked = asked_answer words m 0 bytes (check project folder derivation) q is in
    let said = on_zero (project_at project m) (λ p. check_on folder derivation p m) asked.answer asked.gives asked.prints.0 in
    let read = on_zero (proof_at derivation m) (λ x. check_with folder said.value x m) asked.answer said.answers asked.prints.0 in
    let on = on_zero (resolution_with folder said.value [] m) (λ r. answer (IsCheckAnswer r read.value) m) asked.answer read.answers asked.prints.0 in
    let is_accepted = accepted_is on.value read.value asked.answer on.answers asked.prints.0 in
    record {
      resolution = on.value;
      given = without_old project folder m said.value on.value said.gave on.gave;
      proof = read.value;
      read = read.gave;
      none = law on.value read.value (subst (IsCheckAnswer on.value read.value) is_accepted on.answers);
    }
