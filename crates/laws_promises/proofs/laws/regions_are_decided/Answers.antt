use Rattle.laws_promises.proofs.OfRegions.{regions_are_decided as law}
use Rattle.laws_promises.proofs.laws.regions_are_decided.Goals as goal

pub returns : goal.returns
returns c =
    law c.given_is_askable.ensures c.best_where_served.ensures c.outcome_exists.ensures c.fork_answer_exists.ensures
