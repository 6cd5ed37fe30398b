use Rattle.ul_solver.proofs.Moving.{widened}
use Rattle.ul_solver.proofs.solver.widen.Goals as goal

pub returns : goal.returns
returns c = widened c.args.problem.now c.args.trail.now c.open_block.new.trail c.propagate.new.self c.args.opened.now c.open_block.new.opened c.args.node c.args.version c.in_ok-progress.progress
    c.in_ok-open_block.ensures c.in_ok-progress.ensures
