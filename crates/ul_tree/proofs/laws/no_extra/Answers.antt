use Rattle.ul_tree.proofs.TreeTruths.{no_extra}
use Rattle.ul_tree.proofs.laws.no_extra.Goals as goal

pub returns : goal.returns
returns c = no_extra
