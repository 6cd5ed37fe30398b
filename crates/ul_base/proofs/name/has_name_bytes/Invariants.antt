use Rattle.std.proofs.Common.{◌≡◌, drop}
use Rattle.std.specs.List.{list_all}
use Rattle.ul_base.specs.Names.{is_name_byte}
use Rattle.ul_base.proofs.name.has_name_bytes.Given as goal

-- nothing else stands before the index
abbrev pub invariant-loop-byte : goal.invariant-loop-byte
invariant-loop-byte l = list_all is_name_byte (drop l.byte-index l.bytes) ≡ list_all is_name_byte l.bytes
