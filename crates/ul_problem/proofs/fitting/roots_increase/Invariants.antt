use Rattle.std.proofs.Common.{◌-◌, drop}
use Rattle.ul_problem.specs.Problems.{Increases, PlaceBefore}
use Rattle.ul_problem.proofs.Loops.{IsAlike}
use Rattle.ul_problem.proofs.fitting.roots_increase.Given as goal

abbrev pub invariant-loop-k : goal.invariant-loop-k
invariant-loop-k l = IsAlike (Increases PlaceBefore (drop (l.k - 1) l.roots)) (Increases PlaceBefore l.roots)
