use Rattle.std.proofs.Common.{◌≤◌, take}
use Rattle.ul_conflict.specs.Satisfiers.{IsHeldApart}
use Rattle.ul_conflict.proofs.satisfier.satisfier.Given as goal

abbrev pub invariant-loop-place : goal.invariant-loop-place
invariant-loop-place l = record {
  within : l.place ≤ l.from;
  held : IsHeldApart (take l.from l.trail.facts) l.terms l.skip → IsHeldApart (take l.place l.trail.facts) l.terms l.skip;
}

abbrev pub decreases-loop-place : goal.decreases-loop-place
decreases-loop-place l = l.place
