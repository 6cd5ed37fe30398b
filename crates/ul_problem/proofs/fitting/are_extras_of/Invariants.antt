use Rattle.std.proofs.Common.{drop}
use Rattle.ul_problem.specs.Problems.{AllAre, IsExtraOf}
use Rattle.ul_problem.proofs.Loops.{IsAlike}
use Rattle.ul_problem.proofs.fitting.are_extras_of.Given as goal

abbrev pub invariant-loop-extra : goal.invariant-loop-extra
invariant-loop-extra l = IsAlike (AllAre (IsExtraOf l.nodes l.base) (drop l.extra-index l.extras)) (AllAre (IsExtraOf l.nodes l.base) l.extras)
