use Rattle.std.proofs.Common.{◌≡◌, take}
use Rattle.ul_version.proofs.equality.same_segments.Given as goal

abbrev pub invariant-loop-k : goal.invariant-loop-k
invariant-loop-k l = take l.k l.segments ≡ take l.k l.others
