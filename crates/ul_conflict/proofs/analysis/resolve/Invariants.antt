use Rattle.ul_conflict.specs.Resolved.{IsResolvedBy}
use Rattle.ul_conflict.proofs.analysis.resolve.Given as goal

abbrev pub invariant-loop-resolved : goal.invariant-loop-resolved
invariant-loop-resolved l = IsResolvedBy l.problem l.trail l.resolved l.place

abbrev pub decreases-loop-resolved : goal.decreases-loop-resolved
decreases-loop-resolved l = l.place
