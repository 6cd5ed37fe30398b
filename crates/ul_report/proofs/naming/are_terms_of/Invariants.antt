use Rattle.std.proofs.Common.{drop}
use Rattle.ul_problem.specs.Steps.{AreTermsOf}
use Rattle.ul_report.proofs.Nameable.{IsAlike}
use Rattle.ul_report.proofs.naming.are_terms_of.Given as goal

abbrev pub invariant-loop-term : goal.invariant-loop-term
invariant-loop-term l = IsAlike (AreTermsOf l.problem (drop l.term-index l.terms)) (AreTermsOf l.problem l.terms)
