use Rattle.ul_interner.proofs.ForCallers.{knows_then}
use Rattle.ul_algebra.proofs.ForCallers.{diagram_stays}
use Rattle.tests_threads.proofs.algebra.parity.one_of.Goals as goal

pub without-requires-2-clause-kept : goal.without-requires-2-clause-kept
without-requires-2-clause-kept g c = diagram_stays _ _ c.args.second.now c.in_ok-first_alone.ensures.knows c.requires.second

pub without-requires-2-clause-taken : goal.without-requires-2-clause-taken
without-requires-2-clause-taken g c = diagram_stays _ _ c.args.first.now c.in_ok-first_alone.ensures.knows c.requires.first

pub or-requires-clause-a : goal.or-requires-clause-a
or-requires-clause-a g c = diagram_stays _ _ c.in_ok-first_alone.first_alone c.in_ok-second_alone.ensures.knows c.in_ok-first_alone.ensures.diagram

pub returns-in_err-second_alone-clause-knows : goal.returns-in_err-second_alone-clause-knows
returns-in_err-second_alone-clause-knows g c = knows_then _ _ _ c.in_ok-first_alone.ensures.knows c.in_err-second_alone.ensures.knows

pub returns-in_err-either-clause-knows : goal.returns-in_err-either-clause-knows
returns-in_err-either-clause-knows g c = knows_then _ _ _ c.in_ok-first_alone.ensures.knows (knows_then _ _ _ c.in_ok-second_alone.ensures.knows c.in_err-either.ensures.knows)

pub returns-clause-knows : goal.returns-clause-knows
returns-clause-knows g c = knows_then _ _ _ c.in_ok-first_alone.ensures.knows (knows_then _ _ _ c.in_ok-second_alone.ensures.knows c.in_ok-either.ensures.knows)
