use Rattle.ul_interner.proofs.ForCallers.{known_stays, knows_then}
use Rattle.tests_threads.proofs.interner.shared.node.Goals as goal

pub returns-in_err-right-clause-knows : goal.returns-in_err-right-clause-knows
returns-in_err-right-clause-knows g c = knows_then _ _ _ c.in_ok-left.ensures.knows c.leaf-2.ensures.knows

pub pair-requires-clause-left : goal.pair-requires-clause-left
pair-requires-clause-left g c = known_stays _ _ c.leaf-2.ensures.knows c.in_ok-left.left c.in_ok-left.ensures.known

pub returns-clause-knows : goal.returns-clause-knows
returns-clause-knows g c = knows_then _ _ _ c.in_ok-left.ensures.knows (knows_then _ _ _ c.leaf-2.ensures.knows c.pair.ensures.knows)
