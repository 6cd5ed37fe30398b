use Rattle.ul_trail.specs.Propagation.{IsTrailOf}
use Rattle.tests_solver.proofs.solver.runs.hold_node.Given as goal

abbrev pub invariant-loop-version : goal.invariant-loop-version
invariant-loop-version l = IsTrailOf l.problem l.trail
