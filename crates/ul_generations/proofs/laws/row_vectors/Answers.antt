use Rattle.ul_generations.proofs.Worked.{worked_rows}
use Rattle.ul_generations.proofs.laws.row_vectors.Goals as goal

pub returns : goal.returns
returns c = worked_rows
