use Rattle.ul_split.proofs.LeafLaws.{children}
use Rattle.ul_split.proofs.laws.children.Goals as goal

pub returns : goal.returns
returns c = children
