use Rattle.laws_relock.proofs.Settled.{settled_promises as law}
use Rattle.laws_relock.proofs.laws.settled_locks.Goals as goal

pub returns : goal.returns
returns c = law c.inputs_by_what_is_read.ensures c.text_laws.ensures.locks_text c.verified_laws.ensures
