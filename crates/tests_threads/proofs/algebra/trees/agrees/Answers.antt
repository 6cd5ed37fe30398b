use Rattle.ul_algebra.proofs.ForCallers.{diagram_stays}
use Rattle.tests_threads.proofs.algebra.trees.agrees.Goals as goal

pub of_diagrams-requires-clause-first : goal.of_diagrams-requires-clause-first
of_diagrams-requires-clause-first g c = diagram_stays _ _ c.in_ok-one.one c.in_ok-other.ensures.knows c.in_ok-one.ensures.diagram
