use Rattle.std.proofs.Common.{◌≡◌, drop}
use Rattle.std.specs.List.{list_all}
use Rattle.ul_comparison.specs.Atoms.{is_literal_byte}
use Rattle.ul_comparison.proofs.atom.has_literal_bytes.Given as goal

abbrev pub invariant-loop-byte : goal.invariant-loop-byte
invariant-loop-byte l = list_all is_literal_byte (drop l.byte-index l.text) ≡ list_all is_literal_byte l.text
