-- What `export` prints: of a lock that `lock` printed or `verify` accepted, and of any lock.
use Rattle.std.specs.Prelude.{◌≡◌, ◌↔◌, ℕ, List, true, None, Option, Ok, Some}
use Rattle.ul_comparison.specs.Worlds.{WorldFields, IsWorld}
use Rattle.ul_files.specs.Files.{FileMap, content}
use Rattle.ul_lines.specs.Lines.{lines_of}
use Rattle.ul_lock.specs.declared.parts.Lock.{Lock}
use Rattle.ul_lock.specs.Walk.{Pick as NodeAt}
use Rattle.ul_lock_write.specs.Texts.{lock_text}
use Rattle.ul_reach.specs.Headline.{IsGiven}
use Rattle.ul_reach.specs.Lines.{rows_text}
use Rattle.ul_reach.specs.Rows.{is_supported}
use Rattle.ul_reach.specs.declared.rows.Reached.{Reached}
use Rattle.ul_inputs.specs.Locks.{lock_at}
use Rattle.ul_inputs.specs.Resolutions.{ResolutionFields, resolution_in}
use Rattle.ul_lock_commands.specs.Words.{names_of}
use Rattle.ul_commands.specs.Asked.{export, lock, verify}
use Rattle.laws_commands.specs.Exports.{ExportsRequired}
use Rattle.laws_exports.specs.Lines.{AreRead, AreRowLines, AskWhatIsGiven, IsAsked}
use Rattle.ul_program.specs.Answer.{IsAnswer}
use Rattle.ul_program.specs.Words.{question}

-- the text is the lines of rows, each of which is read as the requirement of its row (PEP 508); and the rows say, in
-- each world that the project supports, exactly what is required there
pub record ExportsRightly (r : ResolutionFields) (l : Lock) (words : List (List ℕ)) (text : List ℕ) : Type 0 where
  pub rows : List Reached
  pub are : text ≡ rows_text rows
  pub lines : AreRowLines (lines_of text) rows
  pub required : ExportsRequired r l words rows

-- These are the bytes of a lock, of which that is exported. Each line has a reading, since no marker of the project and its
-- documents compares `extras`, and so neither does one of the lock's: in each world that the lock supports the lines ask
-- for exactly what it gives there with the words' extras.
pub record IsRightExport (r : ResolutionFields) (words : List (List ℕ)) (bytes text : List ℕ) : Type 0 where
  pub lock : Lock
  pub is : bytes ≡ lock_text lock
  pub right : ExportsRightly r lock words text
  pub read : AreRead (lines_of text)
  pub ask : (w : WorldFields) → IsWorld w → is_supported lock w ≡ true → (p : NodeAt)
      → IsGiven lock w (names_of words) p ↔ IsAsked (lines_of text) w p

-- of a file into which `lock` printed
abbrev pub ExportsAreRight : Type 0
ExportsAreRight = (words others : List (List ℕ)) (before now : FileMap) (bytes text project folder : List ℕ) (workers : ℕ)
    (old : Option (List ℕ)) (path : List ℕ) (extras : List (List ℕ)) (r : ResolutionFields)
    → question words ≡ lock project folder workers old → question others ≡ export path extras
    → IsAnswer words before 0 bytes → content now path ≡ Some bytes → IsAnswer others now 0 text
    → (resolution_in project folder old before).gives (Ok r) → IsRightExport r extras bytes text

-- of a file that `verify` accepted
abbrev pub VerifiedExportsAreRight : Type 0
VerifiedExportsAreRight = (words others : List (List ℕ)) (m : FileMap) (bytes text project folder path : List ℕ)
    (extras : List (List ℕ)) (r : ResolutionFields) (l : Lock)
    → question words ≡ verify project folder path → question others ≡ export path extras
    → IsAnswer words m 0 bytes → IsAnswer others m 0 text
    → (resolution_in project folder None m).gives (Ok r) → (lock_at path m).gives (Ok l) → ExportsRightly r l extras text

-- the text is lines, each of which is read as the requirement of a row, and which in each world that the lock supports
-- ask for what the lock gives there with the words' extras
pub record AreRequirements (l : Lock) (words : List (List ℕ)) (text : List ℕ) : Type 0 where
  pub rows : List Reached
  pub lines : AreRowLines (lines_of text) rows
  pub ask : AskWhatIsGiven l (names_of words) (lines_of text)

-- they are those of the lock in the file
pub record AreRequirementsOf (path : List ℕ) (words : List (List ℕ)) (m : FileMap) (text : List ℕ) : Type 0 where
  pub lock : Lock
  pub given : (lock_at path m).gives (Ok lock)
  pub are : AreRequirements lock words text

-- of any lock, whoever wrote it
abbrev pub ExportsAreRequirements : Type 0
ExportsAreRequirements = (words : List (List ℕ)) (m : FileMap) (text path : List ℕ) (extras : List (List ℕ))
    → question words ≡ export path extras → IsAnswer words m 0 text → AreRequirementsOf path extras m text
