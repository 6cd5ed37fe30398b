use Rattle.std.proofs.Common.{take, []}
use Rattle.ul_problem.specs.Steps.{AreRightAfter}
use Rattle.ul_derivation.proofs.accept.accepts.Given as goal

abbrev pub invariant-loop-i : goal.invariant-loop-i
invariant-loop-i l = AreRightAfter l.problem [] (take l.i l.steps)
