use Rattle.laws_promises.proofs.OfAnswers.{questions_are_answered as law}
use Rattle.laws_promises.proofs.laws.questions_are_answered.Goals as goal

pub returns : goal.returns
returns c = law c.answers_exist.ensures
