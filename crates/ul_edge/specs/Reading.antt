-- What reading to the end gives.
use Rattle.std.specs.Prelude.{◌≡◌, ℕ, ◌<◌, List, length, Result, Ok, Err, Vec, ⊤}
use Rattle.std.specs.declared.alloc.Global.{Global}
use Rattle.ul_files.specs.declared.files.ReadRefused.{ReadRefused}
use Rattle.ul_files.specs.declared.files.ReadRefused.TheVariants.{Failed, TooLong, NoMemory}
use Rattle.ul_edge.specs.Counting.{HasFailed, HasNoFailure}
use Rattle.ul_edge.specs.declared.counted.Counted.{Counted}

-- what an answer says of the bytes that were left: these are all of them, or they are more than the limit; a failed read
-- and want of memory say nothing
abbrev pub GivesAll : List ℕ → ℕ → Result (Vec ℕ Global) ReadRefused → Type 0
GivesAll left limit (Ok bytes) = bytes.items ≡ left
GivesAll left limit (Err TooLong) = limit < length left
GivesAll left limit (Err Failed) = ⊤
GivesAll left limit (Err NoMemory) = ⊤

-- an answer says that a read failed where one did, and only there
abbrev pub FailsWith : {T : Type 0} → Result (Vec ℕ Global) ReadRefused → Counted T → Counted T → Type 0
FailsWith (Err Failed) before now = HasFailed before now
FailsWith _ before now = HasNoFailure before now
