use Rattle.ul_program.proofs.Headlines.{read_answer}
use Rattle.ul_program.proofs.laws.read_answer.Goals as goal

pub returns : goal.returns
returns c = read_answer
