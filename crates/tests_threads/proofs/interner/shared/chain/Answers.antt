use Rattle.ul_interner.proofs.ForCallers.{known_stays}
use Rattle.tests_threads.proofs.interner.shared.chain.Goals as goal

pub pair-requires-clause-left : goal.pair-requires-clause-left
pair-requires-clause-left g c = known_stays _ _ c.leaf-in-loop-number.ensures.knows c.loop-number.mark c.loop-number.invariant.1
