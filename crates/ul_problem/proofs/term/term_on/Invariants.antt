use Rattle.std.proofs.Common.{◌≡◌, drop}
use Rattle.ul_problem.specs.Terms.{term_on}
use Rattle.ul_problem.proofs.term.term_on.Given as goal

abbrev pub invariant-loop-term : goal.invariant-loop-term
invariant-loop-term l = term_on l.node (drop l.term-index l.terms) ≡ term_on l.node l.terms
