use Rattle.ul_tree.proofs.JoinedTrees.{operations}
use Rattle.ul_tree.proofs.laws.tree_operations.Goals as goal

pub returns : goal.returns
returns c = operations
