use Rattle.ul_solver.proofs.Moving.{followed_opened}
use Rattle.ul_solver.proofs.States.{followed_state}
use Rattle.ul_solver.proofs.solver.follow.Goals as goal

pub returns : goal.returns
returns c =
    let e = c.in_ok-progress.ensures in
    let f = followed_state c.args.problem.now c.args.trail.now c.propagate.new.self c.requires.state e.kept e.steps e.grown in
    record {
      state = f.0;
      opened = followed_opened c.args.problem.now c.args.trail.now c.propagate.new.self c.args.opened.now c.requires.opened e.steps e.grown f.1 f.2;
      progress = e.progress;
    }
