use Rattle.ul_interner.proofs.ForCallers.{knows_then}
use Rattle.ul_prepared.proofs.ForCallers.{prepared_still}
use Rattle.ul_forks.proofs.Judging.{ready_still}
use Rattle.ul_forks.proofs.region_judge.judge_in.Goals as goal

pub problem_in-requires-clause-prepared : goal.problem_in-requires-clause-prepared
problem_in-requires-clause-prepared g c = prepared_still _ _ c.args.judge.now.prepared.now c.of.ensures.knows c.requires.ready.prepared

pub judge_problem-requires-clause-ready : goal.judge_problem-requires-clause-ready
judge_problem-requires-clause-ready g c = ready_still _ _ c.args.judge.now.prepared.now c.args.judge.now.extras.now c.of.ensures.knows c.requires.ready

pub returns-in_err-judged-clause-knows : goal.returns-in_err-judged-clause-knows
returns-in_err-judged-clause-knows g c = knows_then _ _ _ c.of.ensures.knows c.judge_problem.ensures.knows

pub returns-clause-knows : goal.returns-clause-knows
returns-clause-knows g c = knows_then _ _ _ c.of.ensures.knows c.judge_problem.ensures.knows
