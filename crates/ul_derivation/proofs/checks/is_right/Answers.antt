use Rattle.ul_derivation.proofs.Facts.{ok_then, right_cut}
use Rattle.ul_derivation.proofs.checks.is_right.Goals as goal

pub returns-then-are_terms_of : goal.returns-then-are_terms_of
returns-then-are_terms_of c = ok_then c.is_cut.result _ _ c.is_cut.ensures
    (λ b t. right_cut c.args.problem.now c.args.earlier.now _ _ _ c.in-Cut.terms c.as_slice-terms.result.now c.args.step.now b c.in-Cut.is c.as_slice-terms.ensures (c.are_terms_of.ensures.0 c.if-are_terms_of.true) t)
