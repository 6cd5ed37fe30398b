use Rattle.std.proofs.Common.{◌≡◌, drop}
use Rattle.std.specs.List.{list_all}
use Rattle.ul_requirement.specs.Fields.{is_hex}
use Rattle.ul_lock_lines.proofs.typed.are_hex_digits.Given as goal

abbrev pub invariant-loop-byte : goal.invariant-loop-byte
invariant-loop-byte l = list_all is_hex (drop l.byte-index l.bytes) ≡ list_all is_hex l.bytes
