use Rattle.std.proofs.Common.{drop, length}
use Rattle.ul_problem.specs.Marks.{HasNoMark}
use Rattle.ul_problem.specs.Problems.{AllAre, AreNeeds}
use Rattle.ul_problem.proofs.Loops.{IsAlike}
use Rattle.ul_problem.proofs.fitting.are_rows.Given as goal

abbrev pub invariant-loop-row : goal.invariant-loop-row
invariant-loop-row l = record {
  alike : IsAlike (AllAre (AreNeeds l.nodes) (drop l.row-index l.rows)) (AllAre (AreNeeds l.nodes) l.rows);
  clear : HasNoMark (length l.nodes) l.marks.items;
}
