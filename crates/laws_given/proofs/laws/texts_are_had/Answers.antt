use Rattle.laws_given.proofs.Had.{texts_are_had as law}
use Rattle.laws_given.proofs.laws.texts_are_had.Goals as goal

pub returns : goal.returns
returns c = law c.eligible_same.ensures
