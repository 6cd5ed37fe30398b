use Rattle.ul_interner.proofs.ForCallers.{knows_then}
use Rattle.ul_region.specs.Truths.{region_at}
use Rattle.ul_region.proofs.ForCallers.{truth_still}
use Rattle.ul_placing.proofs.placing.problem_of.Goals as goal

pub problem_at-requires-clause-region : goal.problem_at-requires-clause-region
problem_at-requires-clause-region g c = truth_still c.args.algebra.now c.of.new.algebra c.args.region.now (region_at c.args.region.now) c.of.ensures.knows c.requires.region

pub returns-in_err-problem-clause-knows : goal.returns-in_err-problem-clause-knows
returns-in_err-problem-clause-knows g c = knows_then c.args.algebra.now c.of.new.algebra c.problem_at.new.algebra c.of.ensures.knows c.problem_at.ensures.knows

pub returns-clause-knows : goal.returns-clause-knows
returns-clause-knows g c = knows_then c.args.algebra.now c.of.new.algebra c.problem_at.new.algebra c.of.ensures.knows c.problem_at.ensures.knows
