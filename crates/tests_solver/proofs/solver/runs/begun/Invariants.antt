use Rattle.ul_trail.specs.Propagation.{IsTrailOf}
use Rattle.tests_solver.proofs.solver.runs.begun.Given as goal

abbrev pub invariant-loop-node : goal.invariant-loop-node
invariant-loop-node l = IsTrailOf l.problem l.trail
