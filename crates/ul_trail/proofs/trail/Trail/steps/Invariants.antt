use Rattle.std.proofs.Common.{◌≡◌, take}
use Rattle.ul_trail.proofs.trail.Trail.steps.Given as goal

abbrev pub invariant-loop-place : goal.invariant-loop-place
invariant-loop-place l = l.steps.items ≡ take l.place l.self.steps
