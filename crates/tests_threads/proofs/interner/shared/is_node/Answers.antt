use Rattle.ul_interner.proofs.ForCallers.{known_stays}
use Rattle.tests_threads.proofs.interner.shared.is_node.Goals as goal

pub same-requires-clause-left : goal.same-requires-clause-left
same-requires-clause-left g c κs = known_stays _ _ c.node.ensures.knows c.args.known.now c.requires.known

pub returns-in-Ok-clause-known : goal.returns-in-Ok-clause-known
returns-in-Ok-clause-known g c = known_stays _ _ c.node.ensures.knows c.args.known.now c.requires.known

pub returns-in-Err-clause-known : goal.returns-in-Err-clause-known
returns-in-Err-clause-known g c = known_stays _ _ c.node.ensures.knows c.args.known.now c.requires.known
