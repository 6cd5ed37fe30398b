use Rattle.std.proofs.Common.{refl}
use Rattle.ul_problem.proofs.ForCallers.{accepted_none}
use Rattle.ul_derivation.proofs.Facts.{last_within, closes_tested}
use Rattle.ul_derivation.proofs.closing.closes.Goals as goal

pub says-requires : goal.says-requires
says-requires c = last_within c.args.problem.now c.args.steps.now _ c.in-Some.step.now c.requires c.in-Some.ensures.value refl

pub returns-in_ok-said-in-Some-clause-exact : goal.returns-in_ok-said-in-Some-clause-exact
returns-in_ok-said-in-Some-clause-exact c = closes_tested c.args.problem.now c.args.steps.now _ c.in-Some.step.now c.in_ok-said-in-Some.said c.terms.result.now c.are_root_terms.result
    c.in-Some.ensures.value refl c.in_ok-said-in-Some.ensures.value c.terms.ensures.value c.are_root_terms.ensures

pub returns-in_ok-said-in-Some-clause-none : goal.returns-in_ok-said-in-Some-clause-none
returns-in_ok-said-in-Some-clause-none c = λ e. accepted_none c.args.problem.now c.args.steps.now c.roots-roots.ensures.whole (
  c.requires,
  (closes_tested c.args.problem.now c.args.steps.now _ c.in-Some.step.now c.in_ok-said-in-Some.said c.terms.result.now c.are_root_terms.result
      c.in-Some.ensures.value refl c.in_ok-said-in-Some.ensures.value c.terms.ensures.value c.are_root_terms.ensures).0 e,
)
