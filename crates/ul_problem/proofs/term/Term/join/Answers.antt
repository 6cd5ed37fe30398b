use Rattle.ul_problem.proofs.term.Term.join.Goals as goal

pub returns-in-In-In : goal.returns-in-In-In
returns-in-In-In c = rw (c.in-In-In.is-0, c.in-In-In.is-1) (c.term_in.ensures _ c.join.ensures)

pub returns-in-In-NotIn : goal.returns-in-In-NotIn
returns-in-In-NotIn c = rw (c.in-In-NotIn.is-0, c.in-In-NotIn.is-1) (c.term_not_in.ensures _ c.less.ensures)

pub returns-in-NotIn-In : goal.returns-in-NotIn-In
returns-in-NotIn-In c = rw (c.in-NotIn-In.is-0, c.in-NotIn-In.is-1) (c.term_not_in-in-NotIn-In.ensures _ c.less-in-NotIn-In.ensures)

pub returns-in-NotIn-NotIn : goal.returns-in-NotIn-NotIn
returns-in-NotIn-NotIn c = rw (c.in-NotIn-NotIn.is-0, c.in-NotIn-NotIn.is-1) (c.term_not_in-in-NotIn-NotIn.ensures _ c.meet.ensures)
