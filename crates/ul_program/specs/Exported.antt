-- What is printed with status 0 of `export`: lines that say what the lock of a file gives in each world that it supports.
use Rattle.std.specs.Prelude.{◌≡◌, ℕ, List, Ok}
use Rattle.ul_files.specs.Files.{FileMap}
use Rattle.ul_lock.specs.declared.parts.Lock.{Lock}
use Rattle.ul_reach.specs.Lines.{rows_text}
use Rattle.ul_reach.specs.declared.rows.Reached.{Reached}
use Rattle.ul_inputs.specs.Locks.{lock_at}
use Rattle.ul_lock_commands.specs.Exports.{SayWhatIsGiven}
use Rattle.ul_commands.specs.Asked.{Asked, export}

-- the file has a lock, and the text is the lines of rows that say what the lock gives in each world with the words' extras
pub record PrintsLock (path : List ℕ) (words : List (List ℕ)) (m : FileMap) (text : List ℕ) : Type 0 where
  pub lock : Lock
  pub read : (lock_at path m).gives (Ok lock)
  pub rows : List Reached
  pub lines : text ≡ rows_text rows
  pub say : SayWhatIsGiven lock words rows

-- the text of `export` does; nothing is said here of other commands
abbrev pub SaysWhatIsGiven : Asked → FileMap → List ℕ → Type 0
SaysWhatIsGiven (export path words) m text = PrintsLock path words m text
SaysWhatIsGiven _ m text = Unit {0}
