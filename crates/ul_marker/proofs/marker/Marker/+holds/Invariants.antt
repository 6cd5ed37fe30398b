use Rattle.std.proofs.Common.{◌≡◌, drop}
use Rattle.ul_comparison.specs.Truth.{marker_holds, all_hold, any_holds}
use Rattle.ul_marker.specs.Views.{marker_view, markers_view}
use Rattle.ul_marker.proofs.marker.Marker.+holds.Given as goal

abbrev pub decreases-holds : goal.decreases-holds
decreases-holds l = goal.size-holds l

abbrev pub invariant-loop-part : goal.invariant-loop-part
invariant-loop-part l = all_hold (markers_view (drop l.part-index l.part-items)) l.world l.extra ≡ marker_holds (marker_view l.self) l.world l.extra

abbrev pub invariant-loop-part-2 : goal.invariant-loop-part-2
invariant-loop-part-2 l = any_holds (markers_view (drop l.part-index l.part-items)) l.world l.extra ≡ marker_holds (marker_view l.self) l.world l.extra
