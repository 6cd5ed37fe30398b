use Rattle.laws_comparisons.proofs.OfTrees.{trees_ask_theirs as law}
use Rattle.laws_comparisons.proofs.laws.trees_ask_theirs.Goals as goal

pub returns : goal.returns
returns c = law
