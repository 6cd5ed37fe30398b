use Rattle.ul_algebra.proofs.ForCallers.{diagram_stays}
use Rattle.tests_threads.proofs.algebra.markers.becomes.Goals as goal

pub simplify-requires-clause-f : goal.simplify-requires-clause-f
simplify-requires-clause-f g c = diagram_stays _ _ c.in_ok-marker.marker c.in_ok-region.ensures.knows c.in_ok-marker.ensures.diagram
