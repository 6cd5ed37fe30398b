use Rattle.std.proofs.Common.{◌≡◌, drop}
use Rattle.ul_ranges.specs.Flags.{is_blank}
use Rattle.ul_ranges.proofs.plain.is_empty.Given as goal

abbrev pub invariant-loop-flag : goal.invariant-loop-flag
invariant-loop-flag l = is_blank (drop l.flag-index l.flags) ≡ is_blank l.flags
