use Rattle.laws_commands.proofs.Answers.{answers_are_equal as law}
use Rattle.laws_commands.proofs.laws.answers_are_equal.Goals as goal

pub returns : goal.returns
returns c = law c.lower_laws.ensures
