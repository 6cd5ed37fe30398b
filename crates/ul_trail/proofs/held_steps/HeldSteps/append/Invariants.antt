use Rattle.ul_trail.specs.HeldSteps.{HoldsAlso}
use Rattle.ul_trail.proofs.held_steps.HeldSteps.append.Given as goal

abbrev pub invariant-loop-step : goal.invariant-loop-step
invariant-loop-step l = HoldsAlso l.yielded l.fn.self l.self
