use Rattle.std.proofs.Common.{◌≡◌, take}
use Rattle.ul_requirement.proofs.same.same_versions.Given as goal

abbrev pub invariant-loop-k : goal.invariant-loop-k
invariant-loop-k l = take l.k l.some ≡ take l.k l.others
