use Rattle.ul_solver.specs.Turns.{HasWidened}
use Rattle.ul_solver.proofs.opened.open_all.Given as goal

abbrev pub invariant-loop-node : goal.invariant-loop-node
invariant-loop-node l = HasWidened l.problem l.initial.trail l.initial.opened l.trail l.opened
