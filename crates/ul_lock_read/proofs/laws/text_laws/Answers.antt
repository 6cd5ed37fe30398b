use Rattle.ul_lock_read.proofs.Answered.{one_lock, text_is_locks}
use Rattle.ul_lock_read.proofs.laws.text_laws.Goals as goal

pub returns-clause-different : goal.returns-clause-different
returns-clause-different c = one_lock

pub returns-clause-locks_text : goal.returns-clause-locks_text
returns-clause-locks_text c = text_is_locks
