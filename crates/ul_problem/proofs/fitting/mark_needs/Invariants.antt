use Rattle.ul_problem.proofs.Marking.{IsMarking}
use Rattle.ul_problem.proofs.fitting.mark_needs.Given as goal

abbrev pub invariant-loop-k : goal.invariant-loop-k
invariant-loop-k l = IsMarking l.nodes l.needs l.k l.marks.items
