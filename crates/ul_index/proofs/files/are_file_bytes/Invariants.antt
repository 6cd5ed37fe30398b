use Rattle.std.proofs.Common.{◌≡◌, drop}
use Rattle.std.specs.List.{list_all}
use Rattle.ul_requirement.specs.Fields.{is_file_byte}
use Rattle.ul_index.proofs.files.are_file_bytes.Given as goal

abbrev pub invariant-loop-i : goal.invariant-loop-i
invariant-loop-i l = list_all is_file_byte l.text ≡ list_all is_file_byte (drop l.i l.text)
