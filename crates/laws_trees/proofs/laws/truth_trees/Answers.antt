use Rattle.laws_trees.proofs.Truths.{truth_trees as law}
use Rattle.laws_trees.proofs.laws.truth_trees.Goals as goal

pub returns : goal.returns
returns c = law
