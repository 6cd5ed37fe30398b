use Rattle.std.proofs.Common.{[]}
use Rattle.ul_tree.proofs.FanTrees.{tree_back}
use Rattle.ul_tree.proofs.laws.tree_of_paths.Goals as goal

pub returns : goal.returns
returns c = λ t h. tree_back t [] h
