use Rattle.ul_interner.proofs.ForCallers.{knows_then}
use Rattle.ul_algebra.proofs.ForCallers.{diagram_stays}
use Rattle.tests_threads.proofs.algebra.parity.without.Goals as goal

pub and-requires-clause-a : goal.and-requires-clause-a
and-requires-clause-a g c = diagram_stays _ _ c.args.kept.now c.in_ok-others.ensures.knows c.requires.kept

pub returns-in_err-rest-clause-knows : goal.returns-in_err-rest-clause-knows
returns-in_err-rest-clause-knows g c = knows_then _ _ _ c.in_ok-others.ensures.knows c.in_err-rest.ensures.knows

pub returns-clause-knows : goal.returns-clause-knows
returns-clause-knows g c = knows_then _ _ _ c.in_ok-others.ensures.knows c.in_ok-rest.ensures.knows
