use Rattle.laws_promises.proofs.OfEndings.{deep_refuses_no_fork as law}
use Rattle.laws_promises.proofs.laws.deep_refuses_no_fork.Goals as goal

pub returns : goal.returns
returns c =
    law c.inputs_are_answered.ensures c.given_is_resolution.ensures.resolution c.fork_laws.ensures
    c.refused_are_unserved.ensures.forks
