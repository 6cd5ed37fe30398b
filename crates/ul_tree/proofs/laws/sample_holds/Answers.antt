use Rattle.ul_tree.proofs.Walks.{sample_law}
use Rattle.ul_tree.proofs.laws.sample_holds.Goals as goal

pub returns : goal.returns
returns c = sample_law
