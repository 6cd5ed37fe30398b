use Rattle.std.proofs.Common.{◌∷◌, []}
use Rattle.ul_trail.proofs.Reading.{held_join}
use Rattle.ul_trail.proofs.held_steps.HeldSteps.append.Goals as goal

pub loop-step-preserved : goal.loop-step-preserved
loop-step-preserved c = held_join c.loop-step.yielded (c.in-Some.step ∷ []) c.args.self.now c.loop-step.self c.push.new.self c.loop-step.invariant c.in_ok-push.ensures
