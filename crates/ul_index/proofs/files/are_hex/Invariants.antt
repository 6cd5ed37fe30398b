use Rattle.std.proofs.Common.{◌≡◌, drop}
use Rattle.std.specs.List.{list_all}
use Rattle.ul_requirement.specs.Fields.{is_hex}
use Rattle.ul_index.proofs.files.are_hex.Given as goal

abbrev pub invariant-loop-i : goal.invariant-loop-i
invariant-loop-i l = list_all is_hex l.text ≡ list_all is_hex (drop l.i l.text)
