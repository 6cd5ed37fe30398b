use Rattle.std.proofs.Common.{◌≡◌, take}
use Rattle.ul_problem.proofs.fitting.same_versions.Given as goal

abbrev pub invariant-loop-k : goal.invariant-loop-k
invariant-loop-k l = take l.k l.versions ≡ take l.k l.others
