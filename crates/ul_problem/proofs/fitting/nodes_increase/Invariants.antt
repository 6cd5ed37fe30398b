use Rattle.std.proofs.Common.{◌-◌, drop}
use Rattle.ul_problem.specs.Problems.{Increases, NodeBefore}
use Rattle.ul_problem.proofs.Loops.{IsAlike}
use Rattle.ul_problem.proofs.fitting.nodes_increase.Given as goal

abbrev pub invariant-loop-k : goal.invariant-loop-k
invariant-loop-k l = IsAlike (Increases NodeBefore (drop (l.k - 1) l.nodes)) (Increases NodeBefore l.nodes)
