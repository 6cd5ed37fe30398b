use Rattle.ul_tree.proofs.Shortcuts.{implies_by_join}
use Rattle.ul_tree.proofs.laws.implies_by_join.Goals as goal

pub returns : goal.returns
returns c = implies_by_join
