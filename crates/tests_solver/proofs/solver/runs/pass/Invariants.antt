use Rattle.ul_trail.specs.Propagation.{IsTrailOf}
use Rattle.tests_solver.proofs.solver.runs.pass.Given as goal

abbrev pub invariant-loop-place : goal.invariant-loop-place
invariant-loop-place l = IsTrailOf l.problem l.trail
