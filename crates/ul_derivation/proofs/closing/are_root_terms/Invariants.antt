use Rattle.std.proofs.Common.{drop}
use Rattle.ul_problem.specs.Steps.{AreRootTerms}
use Rattle.ul_derivation.proofs.Lists.{IsAlike}
use Rattle.ul_derivation.proofs.closing.are_root_terms.Given as goal

abbrev pub invariant-loop-term : goal.invariant-loop-term
invariant-loop-term l = IsAlike (AreRootTerms l.problem (drop l.term-index l.terms)) (AreRootTerms l.problem l.terms)
