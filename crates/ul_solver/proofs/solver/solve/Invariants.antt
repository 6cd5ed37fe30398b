use Rattle.ul_trail.specs.Counts.{sizes_of}
use Rattle.ul_trail.specs.Propagation.{IsProgress}
use Rattle.ul_solver.specs.Opened.{IsOpened}
use Rattle.ul_solver.specs.State.{IsState, measure_with}
use Rattle.ul_solver.proofs.solver.solve.Given as goal

abbrev pub invariant-loop-opened : goal.invariant-loop-opened
invariant-loop-opened l = record { state : IsState l.problem l.trail; opened : IsOpened l.problem l.trail l.opened; progress : IsProgress l.problem l.trail l.progress }

abbrev pub decreases-loop-opened : goal.decreases-loop-opened
decreases-loop-opened l = measure_with l.opened.versions.items (sizes_of l.problem) l.trail.facts
