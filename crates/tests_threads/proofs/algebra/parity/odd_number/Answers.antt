use Rattle.ul_interner.proofs.ForCallers.{knows_then}
use Rattle.tests_threads.proofs.algebra.parity.odd_number.Goals as goal

pub loop-step-preserved : goal.loop-step-preserved
loop-step-preserved g c = record {
  knows = knows_then _ _ _ c.loop-step.invariant.knows c.in_ok-odd-2.ensures.knows;
  diagram = c.in_ok-odd-2.ensures.diagram;
}

pub returns-in_err-odd-2-clause-knows : goal.returns-in_err-odd-2-clause-knows
returns-in_err-odd-2-clause-knows g c = knows_then _ _ _ c.in_ok-odd.ensures.knows (knows_then _ _ _ c.loop-step.invariant.knows c.in_err-odd-2.ensures.knows)

pub returns-clause-knows : goal.returns-clause-knows
returns-clause-knows g c = knows_then _ _ _ c.in_ok-odd.ensures.knows c.loop-step.invariant.knows
