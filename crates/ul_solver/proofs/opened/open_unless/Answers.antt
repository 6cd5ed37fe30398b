use Rattle.ul_solver.proofs.Moving.{widened_none}
use Rattle.ul_solver.proofs.opened.open_unless.Goals as goal

pub returns-then-has : goal.returns-then-has
returns-then-has c = widened_none c.args.problem.now c.args.trail.now c.args.opened.now c.requires.state c.requires.opened
