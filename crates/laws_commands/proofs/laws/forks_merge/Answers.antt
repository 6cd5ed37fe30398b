use Rattle.laws_commands.proofs.WellFormed.{forks_merge as law}
use Rattle.laws_commands.proofs.laws.forks_merge.Goals as goal

pub returns : goal.returns
returns c = law c.fork_laws.ensures c.has_world.ensures c.no_extra.ensures
