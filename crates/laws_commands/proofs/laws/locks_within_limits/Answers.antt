use Rattle.laws_commands.proofs.Complete.{locks_within_limits as law}
use Rattle.laws_commands.proofs.laws.locks_within_limits.Goals as goal

pub returns : goal.returns
returns c = law
