use Rattle.std.proofs.Common.{◌≡◌, drop}
use Rattle.ul_report_read.specs.LineReading.{digits_at}
use Rattle.ul_report_read.proofs.Loops.{in_front}
use Rattle.ul_report_read.proofs.lines.digits.Given as goal

abbrev pub invariant-loop-byte : goal.invariant-loop-byte
invariant-loop-byte l = in_front l.digits.items (digits_at (drop l.byte-index l.bytes)) ≡ digits_at l.bytes
