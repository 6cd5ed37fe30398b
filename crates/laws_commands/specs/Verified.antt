-- What `verify` accepts is right, and it accepts what `lock` prints.
use Rattle.std.specs.Prelude.{◌≡◌, ◌≤◌, ℕ, List, length, Option, None, Some, Ok}
use Rattle.ul_files.specs.Files.{FileMap, content}
use Rattle.ul_comparison.specs.Atoms.{AtomFields}
use Rattle.ul_comparison.specs.Machines.{MachineFields, world_of}
use Rattle.ul_comparison.specs.Worlds.{IsWorld}
use Rattle.ul_lock.specs.declared.parts.Lock.{Lock}
use Rattle.ul_lock_write.specs.Texts.{lock_text}
use Rattle.ul_lock.specs.WellFormed.{IsWellFormed}
use Rattle.ul_filter.specs.Comparisons.{HasAll, lock_atoms}
use Rattle.ul_sound.specs.Sound.{AreProjectExtras, IsEligible, IsSound}
use Rattle.ul_inputs.specs.Inputs.{text_bytes}
use Rattle.ul_inputs.specs.Locks.{lock_at}
use Rattle.ul_inputs.specs.Machines.{machine_at}
use Rattle.ul_inputs.specs.Resolutions.{ResolutionFields, resolution_in}
use Rattle.laws_frames.specs.Frames.{AgreeOn}
use Rattle.ul_answers.specs.Answer.{environment, locked, verified}
use Rattle.ul_lock_commands.specs.Environments.{IsEnvAnswer}
use Rattle.ul_lock_commands.specs.Words.{names_of}
use Rattle.ul_commands.specs.Asked.{env, lock, verify}
use Rattle.ul_commands.specs.Commands.{command}
use Rattle.ul_commands.specs.Verifying.{IsVerifyAnswer}
use Rattle.laws_commands.specs.Environments.{IsRequired, ListsExactly}

-- a lock that `verify` accepts is right in every world that the project supports: what it gives there is one version a name,
-- and exactly the closure of what is required
abbrev pub VerifiedAreSound : Type 0
VerifiedAreSound = (r : ResolutionFields) (l : Lock) → IsWellFormed l → IsVerifyAnswer r l (Ok verified)
    → IsSound r.catalog r.project l

-- the same of files
abbrev pub VerifiedFilesAreSound : Type 0
VerifiedFilesAreSound = (project folder path : List ℕ) (m : FileMap) (r : ResolutionFields) (l : Lock)
    → (resolution_in project folder None m).gives (Ok r) → (lock_at path m).gives (Ok l)
    → (command (verify project folder path) m).gives (Ok verified) → IsSound r.catalog r.project l

-- What `env` prints, with extras of the project, of a lock that `verify` accepts lists exactly what is required in the
-- machine's world, where the truth of the lock's comparisons or of more of them is known. Who wrote the lock may have
-- spelled a version otherwise than the catalog does.
abbrev pub EnvironmentsOfVerified : Type 0
EnvironmentsOfVerified = (r : ResolutionFields) (l : Lock) (m : MachineFields) (words : List (List ℕ)) (text : List ℕ)
    (comparisons : List AtomFields)
    → IsWellFormed l → IsVerifyAnswer r l (Ok verified)
    → HasAll comparisons (lock_atoms l) → IsWorld (world_of m comparisons) → AreProjectExtras r.project (names_of words)
    → IsEnvAnswer l m words (Ok (environment text))
    → ListsExactly (IsEligible r.catalog) (IsRequired r l (world_of m comparisons) (names_of words)) text

-- the same of files: `env` reads the lock file that `verify` accepted, beside a machine file
abbrev pub EnvironmentsOfVerifiedFiles : Type 0
EnvironmentsOfVerifiedFiles = (project folder path machine : List ℕ) (words : List (List ℕ)) (m : FileMap)
    (r : ResolutionFields) (l : Lock) (x : MachineFields) (text : List ℕ) (comparisons : List AtomFields)
    → (resolution_in project folder None m).gives (Ok r) → (lock_at path m).gives (Ok l)
    → (machine_at machine m).gives (Ok x)
    → (command (verify project folder path) m).gives (Ok verified)
    → HasAll comparisons (lock_atoms l) → IsWorld (world_of x comparisons) → AreProjectExtras r.project (names_of words)
    → (command (env path machine words) m).gives (Ok (environment text))
    → ListsExactly (IsEligible r.catalog) (IsRequired r l (world_of x comparisons) (names_of words)) text

-- `verify` accepts what `lock` printed before, with any old lock and any number of workers, put into a file, where a file
-- may be so long and what is read for the project and the index folder is the same; the file may be that of the old lock
abbrev pub LocksAreVerified : Type 0
LocksAreVerified = (project folder path : List ℕ) (old : Option (List ℕ)) (workers : ℕ) (before now : FileMap) (l : Lock)
    (forks : ℕ)
    → (command (lock project folder workers old) before).gives (Ok (locked l forks))
    → AgreeOn (resolution_in project folder None before).reads before now
    → content now path ≡ Some (lock_text l) → length (lock_text l) ≤ text_bytes
    → (command (verify project folder path) now).gives (Ok verified)
