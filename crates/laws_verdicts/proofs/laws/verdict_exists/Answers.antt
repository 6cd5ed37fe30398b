use Rattle.laws_verdicts.proofs.Exists.{verdict_exists}
use Rattle.laws_verdicts.proofs.laws.verdict_exists.Goals as goal

pub returns : goal.returns
returns c = verdict_exists c.truth_trees.ensures c.reach_tree_exists.ensures
