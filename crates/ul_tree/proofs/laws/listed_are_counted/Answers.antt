use Rattle.ul_tree.proofs.Counted.{counted}
use Rattle.ul_tree.proofs.laws.listed_are_counted.Goals as goal

pub returns : goal.returns
returns c = counted
