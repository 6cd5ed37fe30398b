use Rattle.laws_locks.proofs.Exists.{lock_exists as law}
use Rattle.laws_locks.proofs.laws.lock_exists.Goals as goal

pub returns : goal.returns
returns c = law c.truth_trees.ensures c.eligible_rises.ensures
