use Rattle.laws_commands.proofs.Answers.{answers_are_one as law}
use Rattle.laws_commands.proofs.laws.answers_are_one.Goals as goal

pub returns : goal.returns
returns c = law c.lower_laws.ensures
