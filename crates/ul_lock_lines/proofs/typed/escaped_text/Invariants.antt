use Rattle.std.proofs.Common.{◌≡◌, ◌++◌, drop}
use Rattle.ul_lock_lines.specs.Text.{escaped}
use Rattle.ul_lock_lines.proofs.typed.escaped_text.Given as goal

abbrev pub invariant-loop-byte : goal.invariant-loop-byte
invariant-loop-byte l = l.out.items ++ escaped (drop l.byte-index l.bytes) ≡ escaped l.bytes
