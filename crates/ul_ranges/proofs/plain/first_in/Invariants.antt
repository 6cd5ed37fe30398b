use Rattle.std.proofs.Common.{◌≡◌, drop}
use Rattle.ul_ranges.specs.Flags.{first_in}
use Rattle.ul_ranges.proofs.plain.first_in.Given as goal

abbrev pub invariant-loop-k : goal.invariant-loop-k
invariant-loop-k l = first_in (drop l.k-index l.order) l.flags ≡ first_in l.order l.flags
