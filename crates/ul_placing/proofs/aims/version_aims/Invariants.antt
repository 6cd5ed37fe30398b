use Rattle.ul_region.specs.Asked.{region_asked}
use Rattle.ul_placing.specs.Aims.{IsFirmIn}
use Rattle.ul_placing.proofs.Aiming.{IsCollected}
use Rattle.ul_placing.proofs.aims.version_aims.Given as goal

abbrev pub invariant-loop-k : goal.invariant-loop-k
invariant-loop-k l = IsCollected (IsFirmIn (region_asked l.at) l.at.node.now l.at.row.now) l.at.row.now.asked l.aims l.k l.needs
