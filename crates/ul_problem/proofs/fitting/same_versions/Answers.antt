use Rattle.std.proofs.Common.{length, ap, refl, sym, ◌∙◌}
use Rattle.std.proofs.lemmas.Bool.{true≢false}
use Rattle.ul_problem.proofs.Loops.{same_more, same_at, same_all}
use Rattle.ul_problem.proofs.fitting.same_versions.Goals as goal

pub returns-then-versions-others : goal.returns-then-versions-others
returns-then-versions-others c = (λ t. absurd (true≢false (sym t)), λ e. absurd (c.if-versions-others.true (ap (λ xs. length xs) e)))

pub loop-k-preserved : goal.loop-k-preserved
loop-k-preserved c = same_more c.args.versions.now c.args.others.now c.loop-k.k c.index-versions-k.result c.index-others-k.result c.loop-k-test.true c.if-versions-others.false c.index-versions-k.is c.index-others-k.is (c.same.ensures.0 c.if-not-same.false) c.loop-k.invariant

pub returns-then-not-same : goal.returns-then-not-same
returns-then-not-same c = (
  λ t. absurd (true≢false (sym t)),
  λ e. absurd (true≢false (sym (c.same.ensures.1 (same_at c.args.versions.now c.args.others.now c.loop-k.k c.index-versions-k.result c.index-others-k.result c.loop-k-test.true c.index-versions-k.is c.index-others-k.is e)) ∙ c.if-not-same.true)),
)

pub returns : goal.returns
returns c = (λ _. same_all c.args.versions.now c.args.others.now c.loop-k.k c.loop-k-test.false c.if-versions-others.false c.loop-k.invariant, λ _. refl)
