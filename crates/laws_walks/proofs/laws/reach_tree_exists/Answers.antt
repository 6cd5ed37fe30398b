use Rattle.laws_walks.proofs.Reaches.{reach_tree_exists as law}
use Rattle.laws_walks.proofs.laws.reach_tree_exists.Goals as goal

pub returns : goal.returns
returns c = law
