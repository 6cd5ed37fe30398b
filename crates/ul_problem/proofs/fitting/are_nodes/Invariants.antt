use Rattle.std.proofs.Common.{drop, length}
use Rattle.ul_problem.specs.Marks.{HasNoMark}
use Rattle.ul_problem.specs.Problems.{AllAre, IsNodeOf}
use Rattle.ul_problem.proofs.Loops.{IsAlike}
use Rattle.ul_problem.proofs.fitting.are_nodes.Given as goal

abbrev pub invariant-loop-facts : goal.invariant-loop-facts
invariant-loop-facts l = record {
  alike : IsAlike (AllAre (IsNodeOf l.all) (drop l.facts-index l.nodes)) (AllAre (IsNodeOf l.all) l.nodes);
  clear : HasNoMark (length l.all) l.marks.items;
}
