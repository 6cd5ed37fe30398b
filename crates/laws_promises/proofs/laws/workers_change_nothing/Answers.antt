use Rattle.laws_promises.proofs.OfAnswers.{workers_change_nothing as law}
use Rattle.laws_promises.proofs.laws.workers_change_nothing.Goals as goal

pub returns : goal.returns
returns c = law c.workers_dont_matter.ensures
