use Rattle.std.proofs.Common.{drop}
use Rattle.ul_problem.specs.Problems.{AllAre, IsSingle}
use Rattle.ul_problem.proofs.Loops.{IsAlike}
use Rattle.ul_problem.proofs.fitting.are_single.Given as goal

abbrev pub invariant-loop-root : goal.invariant-loop-root
invariant-loop-root l = IsAlike (AllAre (IsSingle l.nodes) (drop l.root-index l.roots)) (AllAre (IsSingle l.nodes) l.roots)
