use Rattle.laws_relock.proofs.Texts.{printed_locks_are_settled, printed_relocks_are_settled}
use Rattle.laws_relock.proofs.laws.printed_are_settled.Goals as goal

pub returns-clause-locks : goal.returns-clause-locks
returns-clause-locks c = printed_locks_are_settled c.locks_within_limits.ensures c.locks_are_settled.ensures.locks

pub returns-clause-relocks : goal.returns-clause-relocks
returns-clause-relocks c = printed_relocks_are_settled c.locks_within_limits.ensures c.locks_are_settled.ensures.relocks
