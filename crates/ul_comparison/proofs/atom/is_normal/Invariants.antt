use Rattle.std.proofs.Common.{◌≡◌, drop, false}
use Rattle.ul_comparison.proofs.NormalNames.{is_form}
use Rattle.ul_comparison.proofs.atom.is_normal.Given as goal

abbrev pub invariant-loop-byte : goal.invariant-loop-byte
invariant-loop-byte l = is_form l.hyphen (drop l.byte-index l.text) ≡ is_form false l.text
