use Rattle.ul_algebra.proofs.ForCallers.{diagram_stays}
use Rattle.tests_threads.proofs.algebra.parity.orders_agree.Goals as goal

pub implies-requires-clause-a : goal.implies-requires-clause-a
implies-requires-clause-a g c = diagram_stays _ _ c.in_ok-even.even c.in_ok-backwards.ensures.knows c.in_ok-even.ensures.diagram

pub implies-requires-clause-b : goal.implies-requires-clause-b
implies-requires-clause-b g c = diagram_stays _ _ c.in_ok-even.even c.in_ok-backwards.ensures.knows c.in_ok-even.ensures.diagram
