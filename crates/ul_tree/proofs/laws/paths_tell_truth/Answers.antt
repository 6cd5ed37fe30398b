use Rattle.ul_tree.proofs.Truths.{paths_truth}
use Rattle.ul_tree.proofs.laws.paths_tell_truth.Goals as goal

pub returns : goal.returns
returns c = paths_truth
