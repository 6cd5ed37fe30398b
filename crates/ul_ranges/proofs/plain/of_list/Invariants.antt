use Rattle.std.proofs.Common.{◌≡◌}
use Rattle.ul_ranges.specs.Flags.{set_of}
use Rattle.ul_ranges.proofs.plain.of_list.Given as goal

abbrev pub invariant-loop-number : goal.invariant-loop-number
invariant-loop-number l = l.flags.items ≡ set_of l.number-counter l.members
