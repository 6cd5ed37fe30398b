use Rattle.ul_tree.proofs.Extras.{one_truth_one_tree}
use Rattle.ul_tree.proofs.laws.one_truth.Goals as goal

pub returns : goal.returns
returns c = one_truth_one_tree
