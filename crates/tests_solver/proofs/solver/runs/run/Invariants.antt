use Rattle.ul_trail.specs.Propagation.{IsTrailOf}
use Rattle.tests_solver.proofs.solver.runs.run.Given as goal

abbrev pub invariant-loop-count : goal.invariant-loop-count
invariant-loop-count l = IsTrailOf l.problem l.trail
