-- A lock that is printed stays as it is: beside the same project file and index folder it is kept, and has the files of
-- today.
use Rattle.std.specs.Prelude.{◌≡◌, ◌≤◌, ℕ, List, length, Option, Some, None, Ok}
use Rattle.ul_files.specs.Files.{FileMap, content}
use Rattle.ul_lock.specs.WellFormed.{IsWellFormed}
use Rattle.ul_lock.specs.declared.parts.Lock.{Lock}
use Rattle.ul_lock_write.specs.Texts.{lock_text}
use Rattle.ul_sound.specs.Sound.{IsSound}
use Rattle.ul_inputs.specs.Inputs.{text_bytes}
use Rattle.ul_inputs.specs.Resolutions.{ResolutionFields, resolution_in}
use Rattle.ul_answers.specs.Answer.{locked, verified}
use Rattle.ul_commands.specs.Locking.{lock_of}
use Rattle.ul_commands.specs.Asked.{verify}
use Rattle.ul_commands.specs.Commands.{command}
use Rattle.laws_frames.specs.Frames.{AgreeOn}
use Rattle.ul_commands.specs.Relocking.{IsKept, fork_count, refreshed, relock_of}

-- what the files of a project and an index give keeps the lock, with the files that it has; and its text is read
pub record IsSettled (project folder : List ℕ) (m : FileMap) (l : Lock) : Type 0 where
  pub resolution : ResolutionFields
  pub given : (resolution_in project folder None m).gives (Ok resolution)
  pub well_formed : IsWellFormed l
  pub kept : IsKept resolution l
  pub same : refreshed resolution.catalog l ≡ l

-- a lock that `lock` gives of files is settled, if it isn't too long
abbrev pub LocksAreSettled : Type 0
LocksAreSettled = (project folder : List ℕ) (old : Option (List ℕ)) (m : FileMap) (l : Lock) (forks : ℕ)
    → (lock_of project folder old m).gives (Ok (locked l forks)) → length (lock_text l) ≤ text_bytes
    → IsSettled project folder m l

-- so is each lock that `relock` gives
abbrev pub RelocksAreSettled : Type 0
RelocksAreSettled = (project folder old : List ℕ) (m : FileMap) (l : Lock) (forks : ℕ)
    → (relock_of project folder old m).gives (Ok (locked l forks)) → length (lock_text l) ≤ text_bytes
    → IsSettled project folder m l

-- what holds of a settled lock
pub record SettledPromises : Type 0 where
  -- it is one beside each file that has the same at the paths which are read for the project and the index
  pub moves : (project folder : List ℕ) (before now : FileMap) (l : Lock)
      → AgreeOn (resolution_in project folder None before).reads before now
      → IsSettled project folder before l → IsSettled project folder now l
  -- put into a file, `relock` gives it again
  pub stays : (project folder path : List ℕ) (m : FileMap) (l : Lock) → IsSettled project folder m l
      → content m path ≡ Some (lock_text l)
      → (relock_of project folder path m).gives (Ok (locked l (fork_count l.forks)))
  -- and `verify` accepts it
  pub verified : (project folder path : List ℕ) (m : FileMap) (l : Lock) → IsSettled project folder m l
      → content m path ≡ Some (lock_text l)
      → (command (verify project folder path) m).gives (Ok verified)
  -- it is right in every world that the project supports
  pub sound : (project folder : List ℕ) (m : FileMap) (l : Lock) (settled : IsSettled project folder m l)
      → IsSound settled.resolution.catalog settled.resolution.project l
