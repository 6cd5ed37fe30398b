use Rattle.ul_tree.proofs.Shortcuts.{join_shortcuts}
use Rattle.ul_tree.proofs.laws.join_shortcuts.Goals as goal

pub returns : goal.returns
returns c = join_shortcuts
