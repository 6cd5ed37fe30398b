use Rattle.std.proofs.Common.{length, ap, refl, sym, ◌∙◌}
use Rattle.std.proofs.lemmas.Bool.{true≢false}
use Rattle.ul_problem.proofs.Loops.{same_more, same_at, same_all}
use Rattle.ul_problem.proofs.term.same_terms.Goals as goal

pub returns-then-terms-others : goal.returns-then-terms-others
returns-then-terms-others c = (λ t. absurd (true≢false (sym t)), λ e. absurd (c.if-terms-others.true (ap (λ xs. length xs) e)))

pub loop-k-preserved : goal.loop-k-preserved
loop-k-preserved c = same_more c.args.terms.now c.args.others.now c.loop-k.k c.index-terms-k.result c.index-others-k.result c.loop-k-test.true c.if-terms-others.false c.index-terms-k.is c.index-others-k.is (c.same.ensures.0 c.if-not-same.false) c.loop-k.invariant

pub returns-then-not-same : goal.returns-then-not-same
returns-then-not-same c = (
  λ t. absurd (true≢false (sym t)),
  λ e. absurd (true≢false (sym (c.same.ensures.1 (same_at c.args.terms.now c.args.others.now c.loop-k.k c.index-terms-k.result c.index-others-k.result c.loop-k-test.true c.index-terms-k.is c.index-others-k.is e)) ∙ c.if-not-same.true)),
)

pub returns : goal.returns
returns c = (λ _. same_all c.args.terms.now c.args.others.now c.loop-k.k c.loop-k-test.false c.if-terms-others.false c.loop-k.invariant, λ _. refl)
