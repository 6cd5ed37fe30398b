-- What the program promises of `relock`, over the words, the files, a status and the bytes that are printed.
use Rattle.std.specs.Prelude.{◌≡◌, ◌⊎◌, ℕ, List, [], codes, Option, Some, None, Ok}
use Rattle.ul_files.specs.Files.{FileMap, content}
use Rattle.ul_lock.specs.declared.parts.Lock.{Lock}
use Rattle.ul_lock_read.specs.TextOf.{IsTextOf}
use Rattle.ul_inputs.specs.Locks.{lock_at}
use Rattle.ul_inputs.specs.Resolutions.{resolution_in}
use Rattle.ul_commands.specs.Asked.{lock, relock, verify}
use Rattle.laws_frames.specs.Frames.{AgreeOn}
use Rattle.ul_program.specs.Answer.{IsAnswer}
use Rattle.ul_program.specs.Words.{question}
use Rattle.laws_promises.specs.Promises.{IsSoundText}

-- `lock` is asked for, with an old lock or none
pub record AsksLock (words : List (List ℕ)) (project folder : List ℕ) : Type 0 where
  pub workers : ℕ
  pub old : Option (List ℕ)
  pub is : question words ≡ lock project folder workers old

-- `relock` is asked for
pub record AsksRelock (words : List (List ℕ)) (project folder : List ℕ) : Type 0 where
  pub workers : ℕ
  pub old : List ℕ
  pub is : question words ≡ relock project folder workers old

-- What `lock` (with any old lock or none) or `relock` printed with status 0, put into a file beside files that have the
-- same for the project and the index, is printed by `relock` with that file, byte for byte.
abbrev pub RightLocksStay : Type 0
RightLocksStay = (words others : List (List ℕ)) (before now : FileMap) (bytes project folder path : List ℕ)
    (workers : ℕ)
    → AsksLock words project folder ⊎ AsksRelock words project folder
    → question others ≡ relock project folder workers path
    → IsAnswer words before 0 bytes → content now path ≡ Some bytes
    → AgreeOn (resolution_in project folder None before).reads before now
    → IsAnswer others now 0 bytes

-- where the old lock is read, and `lock` without one ends with status 0, so does `relock`
abbrev pub OldLocksDoNoHarm : Type 0
OldLocksDoNoHarm = (words others : List (List ℕ)) (m : FileMap) (status : ℕ) (bytes text project folder old : List ℕ)
    (j k : ℕ) (l : Lock)
    → question words ≡ relock project folder j old → question others ≡ lock project folder k None
    → (lock_at old m).gives (Ok l) → IsAnswer others m 0 text → IsAnswer words m status bytes → status ≡ 0

-- where `relock` ends with status 1, so does `lock` without an old lock, with the same bytes
abbrev pub RefusalsAreOfNone : Type 0
RefusalsAreOfNone = (words others : List (List ℕ)) (m : FileMap) (bytes project folder old : List ℕ) (j k : ℕ)
    → question words ≡ relock project folder j old → question others ≡ lock project folder k None
    → IsAnswer words m 1 bytes → IsAnswer others m 1 bytes

-- what `relock` prints with status 0 is the text of a well formed lock that is right in every world
abbrev pub RelocksAreRight : Type 0
RelocksAreRight = (words : List (List ℕ)) (m : FileMap) (bytes project folder old : List ℕ) (workers : ℕ)
    → question words ≡ relock project folder workers old → IsAnswer words m 0 bytes
    → IsSoundText project folder None m bytes

-- put into a file beside the same ones, it is verified
abbrev pub RelocksAreVerified : Type 0
RelocksAreVerified = (words others : List (List ℕ)) (before now : FileMap) (bytes project folder old path : List ℕ)
    (workers : ℕ)
    → question words ≡ relock project folder workers old → question others ≡ verify project folder path
    → IsAnswer words before 0 bytes → content now path ≡ Some bytes
    → AgreeOn (resolution_in project folder None before).reads before now
    → IsAnswer others now 0 (codes "verified\n")

-- where `lock` printed a lock without forks, `lock` with it as the old lock prints the same bytes
abbrev pub OneForkIsLockedAgain : Type 0
OneForkIsLockedAgain = (words others : List (List ℕ)) (before now : FileMap) (bytes project folder path : List ℕ)
    (j k : ℕ) (old : Option (List ℕ)) (l : Lock)
    → question words ≡ lock project folder j old → question others ≡ lock project folder k (Some path)
    → IsAnswer words before 0 bytes → IsTextOf bytes l → l.forks ≡ [] → content now path ≡ Some bytes
    → AgreeOn (resolution_in project folder None before).reads before now
    → IsAnswer others now 0 bytes
