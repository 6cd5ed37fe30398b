use Rattle.laws_commands.proofs.Reasons.{accepted_are_unserved as law}
use Rattle.laws_commands.proofs.laws.accepted_are_unserved.Goals as goal

pub returns : goal.returns
returns c = law c.accepted_law.ensures c.nothing_serves.ensures
