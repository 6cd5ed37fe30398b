-- What reading the lines of a file answers.
use Rattle.std.specs.Prelude.{◌≡◌, ℕ, List, map, Option, Some, None, Result, Ok, Err, Vec, alloc_error}
use Rattle.std.specs.declared.alloc.AllocError.{AllocError}
use Rattle.std.specs.declared.alloc.Global.{Global}
use Rattle.ul_marker.specs.Views.{marker_view}
use Rattle.ul_marker.specs.declared.fault.MarkerFault.{MarkerFault}
use Rattle.ul_marker.specs.declared.fault.MarkerFault.TheVariants.{NoReading, NoMemory as NoMemoryToRead}
use Rattle.ul_marker.specs.declared.marker.Marker.{Marker}
use Rattle.ul_canonical.specs.Lines.{formulas_of}
use Rattle.ul_canonical.specs.declared.fault.CanonicalFault.{CanonicalFault}
use Rattle.ul_canonical.specs.declared.fault.CanonicalFault.TheVariants.{Line, TooManyComparisons, TooManyPaths, TooLong, NoMemory}

-- markers that say what the lines say, or the number of the first line that says nothing
abbrev pub ReadsLines : List ℕ → Result (Vec Marker Global) CanonicalFault → Type 0
ReadsLines bytes (Ok v) = formulas_of bytes ≡ Ok (map marker_view v.items)
ReadsLines bytes (Err (Line n)) = formulas_of bytes ≡ Err n
ReadsLines bytes (Err TooManyComparisons) = ⊥
ReadsLines bytes (Err TooManyPaths) = ⊥
ReadsLines bytes (Err TooLong) = ⊥
ReadsLines bytes (Err NoMemory) = Unit {0}

-- the marker that a reading gave, or that the text is none; want of memory where that ended it
abbrev pub if_read : Result Marker MarkerFault → Result (Option Marker) AllocError
if_read (Ok marker) = Ok (Some marker)
if_read (Err NoReading) = Ok None
if_read (Err NoMemoryToRead) = Err alloc_error
