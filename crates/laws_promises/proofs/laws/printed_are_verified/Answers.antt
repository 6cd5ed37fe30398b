use Rattle.laws_promises.proofs.OfLocks.{printed_are_verified as law}
use Rattle.laws_promises.proofs.laws.printed_are_verified.Goals as goal

pub returns : goal.returns
returns c = law c.locks_within_limits.ensures c.locks_are_verified.ensures.verified
