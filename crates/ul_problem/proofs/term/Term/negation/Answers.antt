use Rattle.ul_problem.proofs.term.Term.negation.Goals as goal

pub returns-in-In : goal.returns-in-In
returns-in-In c = rw c.in-In.is (c.term_not_in.ensures _ c.copy.ensures)

pub returns-in-NotIn : goal.returns-in-NotIn
returns-in-NotIn c = rw c.in-NotIn.is (c.term_in.ensures _ c.copy-in-NotIn.ensures)
