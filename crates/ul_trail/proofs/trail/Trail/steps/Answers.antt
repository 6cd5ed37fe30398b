use Rattle.std.proofs.Common.{◌≡◌, ℕ, List, ◌++◌, ◌∷◌, [], length, take, ap, arith, sym, ◌∙◌}
use Rattle.ul_problem.specs.declared.step.Step.{Step}
use Rattle.ul_trail.proofs.Places.{take_next, take_whole}
use Rattle.ul_trail.proofs.trail.Trail.steps.Goals as goal

pub loop-place-preserved : goal.loop-place-preserved
loop-place-preserved c = c.in_ok-push.ensures.items ∙ (ap (λ (l : List Step). l ++ c.in_ok-step.step ∷ []) c.loop-place.invariant
    ∙ sym (take_next c.args.self.now.steps c.in_ok-step.step c.loop-place.place c.in_ok-step.ensures))

pub returns : goal.returns
returns c =
    let size : c.loop-place.place ≡ length c.args.self.now.steps = omega (arith, c.loop-place-test.false, c.loop-place.auto.place-end) in
    c.loop-place.invariant ∙ (ap (λ (n : ℕ). take n c.args.self.now.steps) size ∙ take_whole c.args.self.now.steps)
