use Rattle.ul_trail.specs.Propagation.{IsTrailOf}
use Rattle.tests_solver.proofs.solver.trail.tell_passed.Given as goal

abbrev pub invariant-loop : goal.invariant-loop
invariant-loop l = IsTrailOf l.problem l.trail
