-- A text within the limit, or that it is longer.
use Rattle.std.specs.Prelude.{◌≡◌, ℕ, ◌<◌, ◌≤◌, List, length, Result, Ok, Err, Vec}
use Rattle.std.specs.declared.alloc.Global.{Global}
use Rattle.ul_lock_write.specs.declared.writing.WriteFault.{WriteFault}
use Rattle.ul_lock_write.specs.declared.writing.WriteFault.TheVariants.{TooManyPaths, TooLong, NoMemory}

-- the most bytes of a text that is written
abbrev pub text_bytes : ℕ
text_bytes = 67108864

-- what a call answers that writes the text
abbrev pub IsWritten : List ℕ → Result (Vec ℕ Global) WriteFault → Type 0
IsWritten text (Ok v) = (v.items ≡ text) × (length v.items ≤ text_bytes)
IsWritten text (Err (TooManyPaths p)) = ⊥
IsWritten text (Err TooLong) = text_bytes < length text
IsWritten text (Err NoMemory) = Unit {0}
