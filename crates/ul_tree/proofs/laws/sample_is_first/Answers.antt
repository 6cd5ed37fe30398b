use Rattle.ul_tree.proofs.FirstPaths.{sample_is_first}
use Rattle.ul_tree.proofs.laws.sample_is_first.Goals as goal

pub returns : goal.returns
returns c = sample_is_first
