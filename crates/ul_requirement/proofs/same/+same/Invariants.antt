use Rattle.std.proofs.Common.{◌≡◌, map, take}
use Rattle.ul_marker.specs.Views.{marker_view}
use Rattle.ul_requirement.proofs.same.+same.Given as goal

abbrev pub invariant-same_markers-loop-k : goal.invariant-same_markers-loop-k
invariant-same_markers-loop-k l = map marker_view (take l.k l.some) ≡ map marker_view (take l.k l.others)
