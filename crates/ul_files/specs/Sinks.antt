-- What a write to a sink leaves.
use Rattle.std.specs.Prelude.{◌≡◌, ℕ, ◌≤◌, List, ◌++◌, take, Option, Some, None, Result, Ok, Err}
use Rattle.ul_files.specs.Causes.{Rose}
use Rattle.ul_files.specs.declared.sink.SinkRefused.{SinkRefused}
use Rattle.ul_files.specs.declared.sink.SinkRefused.TheVariants.{Failed, NoMemory}

-- where the bytes were told they still are, with this piece behind them; else they still aren't told
abbrev pub Appended : Option (List ℕ) → Option (List ℕ) → List ℕ → Type 0
Appended None now piece = now ≡ None
Appended (Some before) now piece = now ≡ Some (before ++ piece)

-- what an answer says: a failed write raises the count and appends a part of the piece from its front, want of memory
-- leaves all as it was, and else the whole piece is appended
abbrev pub WriteCause :
    ℕ → ℕ → Option (List ℕ) → Option (List ℕ) → List ℕ → Result (Unit {0}) SinkRefused → Type 0
WriteCause before now had has piece (Ok _) = (now ≡ before) × Appended had has piece
WriteCause before now had has piece (Err Failed) =
    Rose before now × (before ≤ now) × (n : ℕ) × Appended had has (take n piece)
WriteCause before now had has piece (Err NoMemory) = (now ≡ before) × (has ≡ had)
