use Rattle.laws_forks.proofs.Outcomes.{outcome_exists as law}
use Rattle.laws_forks.proofs.laws.outcome_exists.Goals as goal

pub returns : goal.returns
returns c =
    law (record {
      trees = c.truth_trees.ensures;
      decide = c.regions_decide.ensures;
      problem = c.problem_exists.ensures;
      best = c.best_where_served.ensures;
      eligible = c.eligible_same.ensures;
      tried = c.preference_same.ensures;
      nothing = c.nothing_serves.ensures;
      names = c.serving_names.ensures;
      cores = c.core_laws.ensures;
    })
