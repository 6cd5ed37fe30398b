use Rattle.ul_tree.proofs.Shortcuts.{apply_steps}
use Rattle.ul_tree.proofs.laws.apply_steps.Goals as goal

pub returns : goal.returns
returns c = apply_steps
