use Rattle.ul_solver.specs.Opened.{AreClosedTo}
use Rattle.ul_solver.proofs.opened.closed_rows.Given as goal

abbrev pub invariant-loop-node : goal.invariant-loop-node
invariant-loop-node l = AreClosedTo l.problem l.node l.rows.items
