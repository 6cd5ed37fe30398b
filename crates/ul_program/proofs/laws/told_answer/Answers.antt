use Rattle.ul_program.proofs.Headlines.{told_answer}
use Rattle.ul_program.proofs.laws.told_answer.Goals as goal

pub returns : goal.returns
returns c = told_answer
