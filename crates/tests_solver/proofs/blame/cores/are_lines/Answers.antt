use Rattle.tests_solver.proofs.blame.cores.are_lines.Goals as goal

pub lines-requires : goal.lines-requires
lines-requires c = λ need h. c.core_laws.ensures.among c.args.problem.now c.args.core.now need c.requires h
