use Rattle.laws_promises.proofs.OfComparisons.{locks_ask_theirs as law}
use Rattle.laws_promises.proofs.laws.locks_ask_theirs.Goals as goal

pub returns : goal.returns
returns c = law c.merged_ask_theirs.ensures c.inputs_are_answered.ensures c.locks_within_limits.ensures
