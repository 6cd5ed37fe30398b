use Rattle.laws_relock.proofs.Refreshed.{refreshed_promises}
use Rattle.laws_relock.proofs.laws.refreshed_locks.Goals as goal

pub returns : goal.returns
returns c = refreshed_promises
