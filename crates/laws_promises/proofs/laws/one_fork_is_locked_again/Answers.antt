use Rattle.laws_promises.proofs.OfRelocks.{one_fork_is_locked_again as law}
use Rattle.laws_promises.proofs.laws.one_fork_is_locked_again.Goals as goal

pub returns : goal.returns
returns c = law c.one_fork_printed.ensures c.level_versions.ensures c.given_is_askable.ensures
