use Rattle.ul_program.proofs.Headlines.{told_output}
use Rattle.ul_program.proofs.laws.told_output.Goals as goal

pub returns : goal.returns
returns c = told_output
