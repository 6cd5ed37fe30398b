-- A read of a file that was to be opened, and the count of faults.
use Rattle.std.proofs.Common.{◌≤◌, ℕ, List, Option, None, Result, Ok, Err, Vec, refl, arith}
use Rattle.std.specs.declared.alloc.Global.{Global}
use Rattle.ul_edge.specs.Opened.{CountsFault}
use Rattle.ul_files.specs.Files.{ReadCause}
use Rattle.ul_files.specs.declared.files.ReadRefused.{ReadRefused}
use Rattle.ul_files.specs.declared.files.ReadRefused.TheVariants.{Failed, TooLong, NoMemory}

-- where a failure is counted and nothing else is, and no path is told, that is what an answer says of the count
pub counted_cause : (before now : ℕ) (path : List ℕ) (answer : Result (Option (Vec ℕ Global)) ReadRefused) → CountsFault answer before now → before ≤ now
    → ReadCause before now None None path answer
counted_cause before now path (Ok found) is rises = (is, refl)
counted_cause before now path (Err Failed) is rises = (omega (arith, is), rises, tt, λ none. none)
counted_cause before now path (Err TooLong) is rises = (is, refl)
counted_cause before now path (Err NoMemory) is rises = (is, refl)
