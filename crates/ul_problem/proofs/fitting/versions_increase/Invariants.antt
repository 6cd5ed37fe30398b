use Rattle.std.proofs.Common.{◌-◌, drop}
use Rattle.ul_problem.specs.Problems.{Increases, VersionBefore}
use Rattle.ul_problem.proofs.Loops.{IsAlike}
use Rattle.ul_problem.proofs.fitting.versions_increase.Given as goal

abbrev pub invariant-loop-k : goal.invariant-loop-k
invariant-loop-k l = IsAlike (Increases VersionBefore (drop (l.k - 1) l.versions)) (Increases VersionBefore l.versions)
