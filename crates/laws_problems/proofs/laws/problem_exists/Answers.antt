use Rattle.laws_problems.proofs.Whole.{exists}
use Rattle.laws_problems.proofs.laws.problem_exists.Goals as goal

pub returns : goal.returns
returns c =
    exists c.truth_trees.ensures c.regions_decide.ensures c.eligible_rises.ensures c.preference_same.ensures
