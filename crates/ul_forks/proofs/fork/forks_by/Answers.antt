use Rattle.ul_forks.specs.Judge.{question_with}
use Rattle.ul_forks.proofs.Forking.{err_weaker, fails_is, forked_is, ok_weaker}
use Rattle.ul_forks.proofs.Sharing.{prepared_sync, shared}
use Rattle.ul_forks.proofs.fork.forks_by.Goals as goal

pub fork_all-requires-sync-J : goal.fork_all-requires-sync-J
fork_all-requires-sync-J g c κs within = search (prepared_sync, shared) depth 60 fits 20000

pub returns-clause-answer : goal.returns-clause-answer
returns-clause-answer g c = ok_weaker _ _ c.fork_all.result
    (λ r h. forked_is c.judged_laws.ensures (question_with c.args.prepared.now c.args.extras.now) c.args.region c.args.workers r.0 r.1.items h) c.fork_all.ensures.answer

pub returns-clause-fault : goal.returns-clause-fault
returns-clause-fault g c = err_weaker _ _ c.fork_all.result (λ e h. fails_is c.judged_laws.ensures (question_with c.args.prepared.now c.args.extras.now) c.args.region e h) c.fork_all.ensures.fault
