-- What is printed, by its status and its bytes: a lock that is printed is the text of a settled lock, and stays.
use Rattle.std.specs.Prelude.{◌≡◌, ℕ, List, [], Option, None, Some, Result, Ok}
use Rattle.ul_files.specs.Files.{FileMap, content}
use Rattle.ul_lock.specs.declared.parts.Lock.{Lock}
use Rattle.ul_lock_read.specs.TextOf.{IsTextOf}
use Rattle.ul_lock_write.specs.Texts.{lock_text}
use Rattle.ul_inputs.specs.Inputs.{Said}
use Rattle.ul_inputs.specs.Refused.{Refused}
use Rattle.ul_inputs.specs.Resolutions.{ResolutionFields, resolution_in}
use Rattle.ul_answers.specs.Answer.{Answer, verified}
use Rattle.ul_answers.specs.Printed.{printed}
use Rattle.ul_commands.specs.Asked.{verify}
use Rattle.ul_commands.specs.Commands.{command}
use Rattle.ul_commands.specs.Locking.{lock_of}
use Rattle.laws_frames.specs.Frames.{AgreeOn}
use Rattle.laws_relock.specs.Again.{LevelAreEqual}
use Rattle.ul_commands.specs.Relocking.{relock_of}
use Rattle.laws_relock.specs.Settled.{IsSettled}

-- an answer or a refusal is given, and this is what is printed for it
pub record IsPrinted (said : Said Answer) (status : ℕ) (bytes : List ℕ) : Type 0 where
  pub answer : Result Answer Refused
  pub gives : said.gives answer
  pub status_is : status ≡ (printed answer).0
  pub bytes_are : bytes ≡ (printed answer).1

-- the bytes are the text of a settled lock
pub record IsSettledText (project folder : List ℕ) (m : FileMap) (bytes : List ℕ) : Type 0 where
  pub lock : Lock
  pub is : bytes ≡ lock_text lock
  pub settled : IsSettled project folder m lock

-- what `lock` prints with status 0 is such a text
abbrev pub PrintedLocksAreSettled : Type 0
PrintedLocksAreSettled = (project folder : List ℕ) (old : Option (List ℕ)) (m : FileMap) (bytes : List ℕ)
    → IsPrinted (lock_of project folder old m) 0 bytes → IsSettledText project folder m bytes

-- and what `relock` prints
abbrev pub PrintedRelocksAreSettled : Type 0
PrintedRelocksAreSettled = (project folder old : List ℕ) (m : FileMap) (bytes : List ℕ)
    → IsPrinted (relock_of project folder old m) 0 bytes → IsSettledText project folder m bytes

-- what holds of such a text
pub record SettledTextPromises : Type 0 where
  -- it is one beside files too that have the same at the paths which are read for the project and the index
  pub moves : (project folder : List ℕ) (before now : FileMap) (bytes : List ℕ)
      → AgreeOn (resolution_in project folder None before).reads before now
      → IsSettledText project folder before bytes → IsSettledText project folder now bytes
  -- put into a file, it is printed by `relock` with that file
  pub stays : (project folder path : List ℕ) (m : FileMap) (bytes : List ℕ) → IsSettledText project folder m bytes
      → content m path ≡ Some bytes → IsPrinted (relock_of project folder path m) 0 bytes
  -- and accepted by `verify`
  pub verified : (project folder path : List ℕ) (m : FileMap) (bytes : List ℕ) → IsSettledText project folder m bytes
      → content m path ≡ Some bytes → (command (verify project folder path) m).gives (Ok verified)

-- where `lock` prints a lock of one fork, `lock` with it as the old lock prints the same bytes, beside files that have
-- the same at the paths which are read for the project and the index
abbrev pub OneForkIsPrintedAgain : Type 0
OneForkIsPrintedAgain = (project folder path : List ℕ) (old : Option (List ℕ)) (before now : FileMap) (bytes : List ℕ)
    (l : Lock)
    → AgreeOn (resolution_in project folder None before).reads before now
    → ((r : ResolutionFields) → (resolution_in project folder None before).gives (Ok r) → LevelAreEqual r.catalog)
    → IsPrinted (lock_of project folder old before) 0 bytes → IsTextOf bytes l → l.forks ≡ []
    → content now path ≡ Some bytes → IsPrinted (lock_of project folder (Some path) now) 0 bytes
