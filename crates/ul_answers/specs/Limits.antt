-- The limits of which faults tell that come in writing: the name and the number of each. Want of memory tells of none.
use Rattle.std.specs.Prelude.{ℕ, List, codes, Option, Some, None, option_map}
use Rattle.ul_inputs.specs.Inputs.{text_bytes}
use Rattle.ul_inputs.specs.Refused.{limit}
use Rattle.ul_marker_text.specs.declared.fault.TextFault.{TextFault}
use Rattle.ul_marker_text.specs.declared.fault.TextFault.TheVariants.{TooLong as TooLongToPrint, NoMemory as NoMemoryToPrint}
use Rattle.ul_lock_write.specs.declared.writing.WriteFault.{WriteFault}
use Rattle.ul_lock_write.specs.declared.writing.WriteFault.TheVariants.{TooManyPaths as TooManyPathsToWrite, TooLong as TooLongToWrite, NoMemory as NoMemoryToWrite}
use Rattle.ul_reach.specs.declared.lines.ExportFault.{ExportFault}
use Rattle.ul_reach.specs.declared.lines.ExportFault.TheVariants.{TooManyPaths, TooLong, NoMemory}
use Rattle.ul_answers.specs.Printed.{Output, refused_output}

-- the name and the number of a limit
abbrev pub Limit : Type 0
Limit = List ℕ × ℕ

-- how many paths a marker that is printed has
abbrev pub marker_paths : Limit
marker_paths = (codes "marker-paths", 4096)

-- how many bytes a text has that is printed
abbrev pub printed_bytes : Limit
printed_bytes = (codes "text-bytes", text_bytes)

-- of writing a lock
abbrev pub of_lock : WriteFault → Option Limit
of_lock (TooManyPathsToWrite paths) = Some marker_paths
of_lock TooLongToWrite = Some printed_bytes
of_lock NoMemoryToWrite = None

-- of writing rows of a lock
abbrev pub of_rows : ExportFault → Option Limit
of_rows (TooManyPaths paths) = Some marker_paths
of_rows TooLong = Some printed_bytes
of_rows NoMemory = None

-- of printing a marker
abbrev pub of_marker : TextFault → Option Limit
of_marker (TooLongToPrint paths) = Some marker_paths
of_marker NoMemoryToPrint = None

-- what is printed for a limit
abbrev pub line_of : Option Limit → Option Output
line_of o = option_map (λ (l : Limit). refused_output (limit l.0 l.1)) o
