use Rattle.std.proofs.Common.{◌≡◌, drop}
use Rattle.ul_ranges.specs.Flags.{first_in}
use Rattle.ul_ranges.proofs.ordinals.Ordinals.first_in.Given as goal

abbrev pub invariant-loop-k : goal.invariant-loop-k
invariant-loop-k l = first_in (drop l.k-index l.k-items) l.self ≡ first_in l.k-items l.self
