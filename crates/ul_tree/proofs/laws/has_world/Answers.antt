use Rattle.ul_tree.proofs.Existence.{holds_somewhere}
use Rattle.ul_tree.proofs.laws.has_world.Goals as goal

pub returns : goal.returns
returns c = holds_somewhere
