use Rattle.laws_trees.proofs.Applied.{regions_decide as law}
use Rattle.laws_trees.proofs.laws.regions_decide.Goals as goal

pub returns : goal.returns
returns c = law c.truth_trees.ensures
