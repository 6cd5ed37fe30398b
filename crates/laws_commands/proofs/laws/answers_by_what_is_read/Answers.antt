use Rattle.laws_commands.proofs.ReadAlone.{answers_by_what_is_read as law}
use Rattle.laws_commands.proofs.laws.answers_by_what_is_read.Goals as goal

pub returns : goal.returns
returns c = law c.inputs_by_what_is_read.ensures
