use Rattle.std.proofs.Common.{◌∷◌, [], None, arith, ap, replicate, ◌++◌, ◌∙◌}
use Rattle.std.proofs.lemmas.List.{replicate-append-replicate}
use Rattle.ul_placing.proofs.reach.no_aims.Goals as goal

pub loop-preserved : goal.loop-preserved
loop-preserved c = c.in_ok-push.ensures.items ∙ (ap (λ z. z ++ None ∷ []) c.loop.invariant ∙ replicate-append-replicate c.loop.counter 1 None)

pub returns : goal.returns
returns c = c.loop.invariant ∙ ap (λ k. replicate k None) (omega (arith, c.loop-test.false, c.loop.auto.counter-end))
