use Rattle.ul_marker.specs.Views.{marker_view, markers_view}
use Rattle.ul_region.proofs.MarkerFacts.{weight, weights}
use Rattle.ul_region.proofs.markers.+diagram_of.Given as goal

abbrev pub decreases-diagram_of : goal.decreases-diagram_of
decreases-diagram_of g l = weight (marker_view l.marker.now)

abbrev pub decreases-joined : goal.decreases-joined
decreases-joined g l = weights (markers_view l.parts.now)
