use Rattle.std.proofs.Common.{◌≡◌, take}
use Rattle.ul_problem.proofs.term.same_terms.Given as goal

abbrev pub invariant-loop-k : goal.invariant-loop-k
invariant-loop-k l = take l.k l.terms ≡ take l.k l.others
