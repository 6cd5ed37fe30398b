use Rattle.laws_commands.proofs.WellFormed.{locks_are_well_formed as law}
use Rattle.laws_commands.proofs.laws.locks_are_well_formed.Goals as goal

pub returns : goal.returns
returns c = law c.forks_merge.ensures c.merge_laws.ensures
