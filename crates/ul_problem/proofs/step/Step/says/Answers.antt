use Rattle.std.proofs.Common.{sym, subst}
use Rattle.ul_problem.specs.Steps.{IsIncompat}
use Rattle.ul_problem.proofs.Wholes.{says_whole, says_fits}
use Rattle.ul_problem.proofs.step.Step.says.Goals as goal

pub said-requires : goal.said-requires
said-requires c = subst (λ ts. IsIncompat ts) (sym c.in_ok-terms.ensures.value) (says_whole c.args.problem.now c.args.self.now c.requires)

pub returns-clause-fits : goal.returns-clause-fits
returns-clause-fits c =
    rw (c.said.ensures, c.in_ok-terms.ensures.value) (says_fits c.args.problem.now c.args.self.now c.in_ok-terms.ensures.whole c.requires)
