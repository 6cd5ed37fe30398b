use Rattle.std.proofs.Common.{◌≡◌, drop}
use Rattle.ul_merge.specs.Numbers.{name_number}
use Rattle.ul_merge.proofs.numbers.name_number.Given as goal

abbrev pub invariant-loop-byte : goal.invariant-loop-byte
invariant-loop-byte l = name_number l.number (drop l.byte-index l.name) ≡ name_number l.seed l.name
