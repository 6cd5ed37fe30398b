use Rattle.ul_region.specs.Truths.{region_at}
use Rattle.ul_placing.specs.Reach.{IsReachTo}
use Rattle.ul_placing.proofs.reach.reach_of.Given as goal

abbrev pub invariant-loop-step : goal.invariant-loop-step
invariant-loop-step l = IsReachTo (region_at l.place.region.now) l.prepared l.step l.reach
