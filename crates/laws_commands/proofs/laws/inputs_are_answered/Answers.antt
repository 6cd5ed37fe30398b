use Rattle.laws_commands.proofs.Complete.{inputs_are_answered as law}
use Rattle.laws_commands.proofs.laws.inputs_are_answered.Goals as goal

pub returns : goal.returns
returns c = law c.lower_laws.ensures
