use Rattle.ul_problem.proofs.Marking.{IsClearing}
use Rattle.ul_problem.proofs.fitting.clear_marks.Given as goal

abbrev pub invariant-loop-k : goal.invariant-loop-k
invariant-loop-k l = IsClearing l.size l.needs l.k l.marks.items
