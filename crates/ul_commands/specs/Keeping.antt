-- What is found of an old lock: whether it stays, and whether a lock can be written.
use Rattle.std.specs.Prelude.{◌≡◌, ◌≤◌, ℕ, length, Bool, true, false, Option, Some, None, Result, Ok, Err, Vec, alloc_error}
use Rattle.std.specs.declared.alloc.AllocError.{AllocError}
use Rattle.std.specs.declared.alloc.Global.{Global}
use Rattle.ul_lock.specs.declared.parts.Lock.{Lock}
use Rattle.ul_lock_write.specs.Markers.{first_over, markers_of}
use Rattle.ul_lock_write.specs.Texts.{lock_text}
use Rattle.ul_lock_write.specs.declared.writing.WriteFault.{WriteFault}
use Rattle.ul_lock_write.specs.declared.writing.WriteFault.TheVariants.{TooManyPaths, TooLong, NoMemory}
use Rattle.ul_inputs.specs.Inputs.{text_bytes}
use Rattle.ul_inputs.specs.Resolutions.{ResolutionFields}
use Rattle.ul_answers.specs.Answer.{Answer, locked, verified}
use Rattle.ul_commands.specs.Relocking.{IsKept, refreshed}

-- each marker is printable, and the text isn't too long
pub record IsWritable (l : Lock) : Type 0 where
  pub paths : first_over (markers_of l) ≡ None
  pub bytes : length (lock_text l) ≤ text_bytes

-- whether a lock was written; want of memory where that ended it
abbrev pub was_written : Result (Vec ℕ Global) WriteFault → Result Bool AllocError
was_written (Ok text) = Ok true
was_written (Err (TooManyPaths paths)) = Ok false
was_written (Err TooLong) = Ok false
was_written (Err NoMemory) = Err alloc_error

-- the lock stays, and is given the catalog's files; or it doesn't stay
abbrev pub StaysAs : ResolutionFields → (before now : Lock) → Bool → Type 0
StaysAs r before now true = (now ≡ refreshed r.catalog before) × IsKept r before
StaysAs r before now false = IsKept r before → ⊥

-- whether it is answered that a lock is verified
abbrev pub is_acceptance : Answer → Bool
is_acceptance verified = true
is_acceptance _ = false

-- the lock of an answer, if it is one
abbrev pub lock_of_answer : Answer → Option Lock
lock_of_answer (locked l forks) = Some l
lock_of_answer _ = None
