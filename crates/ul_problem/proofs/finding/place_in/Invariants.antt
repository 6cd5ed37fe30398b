use Rattle.std.proofs.Common.{◌-◌}
use Rattle.ul_problem.proofs.Halving.{IsHalved}
use Rattle.ul_problem.proofs.finding.place_in.Given as goal

abbrev pub invariant-loop-low : goal.invariant-loop-low
invariant-loop-low l = IsHalved l.nodes l.node l.low l.high

abbrev pub decreases-loop-low : goal.decreases-loop-low
decreases-loop-low l = l.high - l.low
