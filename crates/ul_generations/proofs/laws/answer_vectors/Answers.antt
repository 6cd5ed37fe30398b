use Rattle.ul_generations.proofs.Worked.{worked_answers}
use Rattle.ul_generations.proofs.laws.answer_vectors.Goals as goal

pub returns : goal.returns
returns c = worked_answers
