use Rattle.std.proofs.Common.{◌≡◌, ◌++◌, drop, string_bytes}
use Rattle.std.specs.List.{list_all}
use Rattle.ul_base.specs.Names.{is_name_byte, form_behind, normal_form}
use Rattle.ul_base.proofs.name.normalized.Given as goal

-- what was written, and the form of the rest behind it, are the form of all
abbrev pub invariant-loop-byte : goal.invariant-loop-byte
invariant-loop-byte l = record {
  form : string_bytes l.text ++ form_behind l.run (drop l.byte-index l.bytes) ≡ normal_form l.bytes;
  name_bytes : list_all is_name_byte (drop l.byte-index l.bytes) ≡ list_all is_name_byte l.bytes;
}
