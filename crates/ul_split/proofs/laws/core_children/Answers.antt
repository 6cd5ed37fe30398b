use Rattle.ul_split.proofs.Splits.{core_children}
use Rattle.ul_split.proofs.laws.core_children.Goals as goal

pub returns : goal.returns
returns c = core_children
