-- What `env` prints of a file that has a lock's text.
use Rattle.std.proofs.Common.{◌≡◌, ◌∙◌, ℕ, List, Bool, true, false, length, Option, Some, None, Result, Ok, Err, ap, subst, inl, inr}
use Rattle.std.specs.Prelude.{nat_le, codes, if◌then◌else◌}
use Rattle.ul_files.specs.Files.{FileMap, content}
use Rattle.ul_comparison.specs.Machines.{MachineFields}
use Rattle.ul_project.specs.Laws.{OneProject}
use Rattle.ul_load.specs.Laws.{TurnsAgree}
use Rattle.ul_lock_read.specs.Laws.{OneFault, OneTextOneLock, TextIsLocks}
use Rattle.ul_lock_read.specs.TextOf.{IsTextOf}
use Rattle.ul_lock.specs.declared.parts.Lock.{Lock}
use Rattle.ul_lock_write.specs.Markers.{first_over, markers_of}
use Rattle.ul_lock_write.specs.Texts.{lock_text}
use Rattle.ul_lock.specs.WellFormed.{IsWellFormed}
use Rattle.ul_inputs.specs.Inputs.{answer, bounded, present, present_file, said_on, text_bytes}
use Rattle.ul_inputs.specs.Refused.{Refused, limit}
use Rattle.ul_inputs.specs.Locks.{lock_at}
use Rattle.ul_inputs.specs.Machines.{machine_at}
use Rattle.ul_inputs.specs.Resolutions.{ResolutionFields, resolution_in}
use Rattle.laws_given.specs.Given.{GivenHasTexts, GivenIsResolution}
use Rattle.ul_answers.specs.Answer.{environment, locked}
use Rattle.ul_lock_commands.specs.Environments.{IsEnvAnswer}
use Rattle.ul_commands.specs.Asked.{env, lock}
use Rattle.ul_commands.specs.Commands.{command}
use Rattle.ul_commands.specs.Laws.{LocksArePrintable}
use Rattle.ul_commands.specs.Locking.{IsLockAnswer}
use Rattle.laws_commands.specs.Environments.{EnvironmentsOfFiles, EnvironmentsOfLocks}
use Rattle.laws_commands.specs.WellFormed.{GivenAreWellFormed}
use Rattle.laws_commands.proofs.Inputs.{one_machine_at, one_resolution_in}

-- the laws on which this rests
pub record FileLaws : Type 0 where
  pub lists : EnvironmentsOfLocks
  pub resolution : GivenIsResolution
  pub had : GivenHasTexts
  pub formed : GivenAreWellFormed
  pub projects : OneProject
  pub turns : TurnsAgree
  pub locks : OneTextOneLock
  pub texts : TextIsLocks
  pub printable : LocksArePrintable
  pub lock_faults : OneFault

-- ---- the text of a file

found_is : (name : List ℕ) (most : ℕ) (text : List ℕ) (b : Bool) (found : Option (List ℕ))
    → Ok found ≡ (if b then Ok (Some text) else Err (limit name most)) → found ≡ Some text
found_is name most text true found e = cc
found_is name most text false found e = absurd (cc)

text_same : (s t : List ℕ) → (let r : Result (List ℕ) Refused = Ok s in r) ≡ Ok t → s ≡ t
text_same s t e = cc

-- what is read of a file that has the text is the text
pub file_read : (name : List ℕ) (most : ℕ) (m : FileMap) (path text read : List ℕ) → content m path ≡ Some text
    → (present_file name most path m).gives (Ok read) → read ≡ text
file_read name most m path text read at (inl h) = absurd h
file_read name most m path text read at (inr h) =
    let found = found_is name most text (nat_le (length text) most) h.value (h.gave ∙ ap (bounded name most) at) in
    text_same read text (h.answers ∙ ap (present path) found)

-- the lock of a file that has its text
lock_read : OneTextOneLock → TextIsLocks → (m : FileMap) (path : List ℕ) (l k : Lock) → IsWellFormed l → first_over (markers_of l) ≡ None
    → content m path ≡ Some (lock_text l)
    → (lock_at path m).gives (Ok k) → k ≡ l
lock_read locks texts m path l k well none at (inl h) = absurd h
lock_read locks texts m path l k well none at (inr h) =
    let read = file_read (codes "text-bytes") text_bytes m path (lock_text l) h.value at h.gave in
    locks (lock_text l) k l (subst (λ t. IsTextOf t k) read h.answers) (texts l well none)

-- ---- what was answered

resolution_same : (r s : ResolutionFields) → (let a : Result ResolutionFields Refused = Ok r in a) ≡ Ok s → r ≡ s
resolution_same r s e = cc

machine_same : (m n : MachineFields) → (let a : Result MachineFields Refused = Ok m in a) ≡ Ok n → m ≡ n
machine_same m n e = cc

-- the resolution whose lock was answered
locked_of : FileLaws → (project folder : List ℕ) (old : Option (List ℕ)) (workers : ℕ) (m : FileMap) (r : ResolutionFields)
    → (resolution_in project folder old m).gives (Ok r) → (l : Lock) (forks : ℕ)
    → (command (lock project folder workers old) m).gives (Ok (locked l forks)) → IsLockAnswer r (Ok (locked l forks))
locked_of laws project folder old workers m r gave l forks (inl h) = absurd h
locked_of laws project folder old workers m r gave l forks (inr h) =
    let one = one_resolution_in laws.projects laws.turns laws.locks laws.lock_faults project folder old m (Ok h.value) (Ok r) h.gave gave in
    subst (λ s. IsLockAnswer s (Ok (locked l forks))) (resolution_same h.value r one) h.answers

-- the answer of `env` to the machine of a file
for_machine : (machine : List ℕ) (words : List (List ℕ)) (now : FileMap) (k : Lock) (m : MachineFields) (text : List ℕ)
    → (machine_at machine now).gives (Ok m)
    → (said_on (machine_at machine now) (λ x. answer (IsEnvAnswer k x words) now)).gives (Ok (environment text))
    → IsEnvAnswer k m words (Ok (environment text))
for_machine machine words now k m text gave (inl h) = absurd h
for_machine machine words now k m text gave (inr h) =
    let one = one_machine_at machine now (Ok h.value) (Ok m) h.gave gave in
    subst (λ x. IsEnvAnswer k x words (Ok (environment text))) (machine_same h.value m one) h.answers

-- the answer of `env` to the lock and the machine of files
environment_of : FileLaws → (path machine : List ℕ) (words : List (List ℕ)) (now : FileMap) (l : Lock) (m : MachineFields) (text : List ℕ)
    → IsWellFormed l → first_over (markers_of l) ≡ None → content now path ≡ Some (lock_text l) → (machine_at machine now).gives (Ok m)
    → (command (env path machine words) now).gives (Ok (environment text)) → IsEnvAnswer l m words (Ok (environment text))
environment_of laws path machine words now l m text well none at gave (inl h) = absurd h
environment_of laws path machine words now l m text well none at gave (inr h) =
    let same = lock_read laws.locks laws.texts now path l h.value well none at h.gave in
    subst (λ k. IsEnvAnswer k m words (Ok (environment text))) same (for_machine machine words now h.value m text gave h.answers)

pub environments_of_files : FileLaws → EnvironmentsOfFiles
environments_of_files laws project folder old workers path machine words before now r l forks m text comparisons
    resolved locks at gave all world extras prints =
    let well = laws.formed project folder old workers before l forks locks in
    let answered = locked_of laws project folder old workers before r resolved l forks locks in
    laws.lists r l forks m words text comparisons (laws.resolution project folder old before r resolved) (laws.had project folder old before r resolved)
    answered all world extras
    (environment_of laws path machine words now l m text well (laws.printable r l forks answered) at gave prints)
