use Rattle.laws_forks.proofs.Best.{best_where_served as law}
use Rattle.laws_forks.proofs.laws.best_where_served.Goals as goal

pub returns : goal.returns
returns c =
    law (record {
      problem = c.problem_exists.ensures;
      serves = c.best_serves.ensures;
      places = c.serving_places.ensures;
      names = c.best_names.ensures;
      exists = c.best_exists.ensures;
    })
