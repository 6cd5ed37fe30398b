use Rattle.ul_solver.specs.Turns.{HasWidened}
use Rattle.ul_solver.proofs.opened.open_more.Given as goal

abbrev pub invariant-loop-place : goal.invariant-loop-place
invariant-loop-place l = HasWidened l.problem l.initial.trail l.initial.opened l.trail l.opened
