use Rattle.laws_promises.proofs.OfLocks.{refusals_are_right as law}
use Rattle.laws_promises.proofs.laws.refusals_are_right.Goals as goal

pub returns : goal.returns
returns c = law c.fork_laws.ensures c.given_is_resolution.ensures.resolution c.refused_are_unserved.ensures.answers
