use Rattle.std.proofs.Common.{◌≡◌, ◌++◌, drop}
use Rattle.ul_lock_lines.specs.LineReading.{unescaped}
use Rattle.ul_lock_lines.proofs.typed.unescaped_text.Given as goal

abbrev pub invariant-loop-byte : goal.invariant-loop-byte
invariant-loop-byte l = l.out.items ++ unescaped (drop l.byte-index l.bytes) ≡ unescaped l.bytes
