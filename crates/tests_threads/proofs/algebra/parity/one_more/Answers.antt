use Rattle.ul_interner.proofs.ForCallers.{knows_then}
use Rattle.ul_algebra.proofs.ForCallers.{diagram_stays}
use Rattle.tests_threads.proofs.algebra.parity.one_more.Goals as goal

pub one_of-requires-clause-first : goal.one_of-requires-clause-first
one_of-requires-clause-first g c = diagram_stays _ _ c.args.odd c.in_ok-comparison.ensures.knows c.requires

pub returns-in_err-next-clause-knows : goal.returns-in_err-next-clause-knows
returns-in_err-next-clause-knows g c = knows_then _ _ _ c.in_ok-comparison.ensures.knows c.in_err-next.ensures.knows

pub returns-clause-knows : goal.returns-clause-knows
returns-clause-knows g c = knows_then _ _ _ c.in_ok-comparison.ensures.knows c.in_ok-next.ensures.knows
