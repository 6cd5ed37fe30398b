use Rattle.ul_algebra.proofs.ForCallers.{diagram_stays}
use Rattle.tests_threads.proofs.algebra.trees.implication_agrees.Goals as goal

pub implies-requires-clause-a : goal.implies-requires-clause-a
implies-requires-clause-a g c = diagram_stays _ _ c.in_ok-one.one c.in_ok-other.ensures.knows c.in_ok-one.ensures.diagram
