use Rattle.ul_problem.proofs.fitting.are_needs.Goals as goal

pub clear_marks-requires : goal.clear_marks-requires
clear_marks-requires c = c.mark_needs-fits.ensures.marked c.if-fits.true
