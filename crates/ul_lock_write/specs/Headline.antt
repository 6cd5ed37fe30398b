-- The main theorem: what writing a lock answers, exactly.
use Rattle.std.specs.Prelude.{◌≡◌, ◌<◌, ◌≤◌, ℕ, length, Some, None, Result, Ok, Err, Vec}
use Rattle.std.specs.declared.alloc.Global.{Global}
use Rattle.ul_lock.specs.declared.parts.Lock.{Lock}
use Rattle.ul_lock_write.specs.declared.writing.WriteFault.{WriteFault}
use Rattle.ul_lock_write.specs.declared.writing.WriteFault.TheVariants.{TooManyPaths, TooLong, NoMemory as NoMemoryToWrite}
use Rattle.ul_lock_write.specs.Markers.{markers_of, first_over}
use Rattle.ul_lock_write.specs.Texts.{lock_text}
use Rattle.ul_lock_write.specs.TextLimit.{text_bytes}

-- a text is given where it is within the limits, and else the first limit that it passes is told
abbrev pub WritesLock : Lock → Result (Vec ℕ Global) WriteFault → Type 0
WritesLock l (Ok v) = (first_over (markers_of l) ≡ None) × (v.items ≡ lock_text l) × (length v.items ≤ text_bytes)
WritesLock l (Err (TooManyPaths p)) = first_over (markers_of l) ≡ Some p
WritesLock l (Err TooLong) = (first_over (markers_of l) ≡ None) × (text_bytes < length (lock_text l))
WritesLock l (Err NoMemoryToWrite) = Unit {0}
