use Rattle.std.proofs.Common.{◌-◌, length}
use Rattle.ul_region.specs.Truths.{region_at}
use Rattle.ul_placing.proofs.Running.{AreRunsTo}
use Rattle.ul_placing.proofs.aims.node_aims.Given as goal

abbrev pub invariant-loop-first : goal.invariant-loop-first
invariant-loop-first l = AreRunsTo (region_at l.place.region.now) l.planned l.first l.runs.items

abbrev pub decreases-loop-first : goal.decreases-loop-first
decreases-loop-first l = length l.planned.lists.items - l.first
