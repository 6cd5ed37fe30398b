use Rattle.ul_tree.proofs.Exists.{simplify_laws}
use Rattle.ul_tree.proofs.laws.simplify_laws.Goals as goal

pub returns : goal.returns
returns c = simplify_laws
