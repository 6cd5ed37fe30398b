use Rattle.ul_prepared.proofs.ForCallers.{prepared_still}
use Rattle.ul_placing.proofs.placing.problem_at.Goals as goal

pub problem_in-requires-clause-prepared : goal.problem_in-requires-clause-prepared
problem_in-requires-clause-prepared g c = prepared_still c.args.algebra.now c.of.new.algebra c.args.prepared.now c.of.ensures.knows c.requires.prepared
