use Rattle.std.proofs.Common.{subst, sym}
use Rattle.ul_problem.specs.Steps.{AreTermsOf}
use Rattle.ul_problem.proofs.Wholes.{read_whole, read_fits}
use Rattle.ul_problem.proofs.resolving.resolvent.Goals as goal

pub of-requires : goal.of-requires
of-requires c = read_whole c.args.node c.args.left.now c.args.right.now c.terms.result.now c.terms-2.result.now c.in_ok-terms.terms
    c.terms.ensures.value c.terms-2.ensures.value c.terms.ensures.whole c.terms-2.ensures.whole c.in_ok-terms.ensures

pub returns-clause-fits : goal.returns-clause-fits
returns-clause-fits c = λ p a b. subst (λ (x : _). AreTermsOf p x) (sym c.of.ensures)
    (read_fits p c.args.node c.args.left.now c.args.right.now c.terms.result.now c.terms-2.result.now c.in_ok-terms.terms
    c.terms.ensures.value c.terms-2.ensures.value a b c.in_ok-terms.ensures)
