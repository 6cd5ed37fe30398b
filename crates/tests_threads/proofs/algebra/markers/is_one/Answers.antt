use Rattle.ul_algebra.proofs.ForCallers.{diagram_stays}
use Rattle.tests_threads.proofs.algebra.markers.is_one.Goals as goal

pub same-requires-clause-a : goal.same-requires-clause-a
same-requires-clause-a g c = diagram_stays _ _ c.in_ok-one.one c.in_ok-other.ensures.knows c.in_ok-one.ensures.diagram
