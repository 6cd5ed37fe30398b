use Rattle.std.proofs.Common.{◌≡◌, take}
use Rattle.ul_problem.proofs.term.Terms.copied.Given as goal

abbrev pub invariant-loop-term : goal.invariant-loop-term
invariant-loop-term l = l.list.items ≡ take l.term-index l.terms
