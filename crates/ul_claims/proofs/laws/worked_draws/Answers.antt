use Rattle.ul_claims.proofs.laws.worked_draws.Goals as goal
use Rattle.ul_claims.proofs.Worked.{draws, not_draws}

pub returns-clause-draws : goal.returns-clause-draws
returns-clause-draws c = draws

pub returns-clause-not_draws : goal.returns-clause-not_draws
returns-clause-not_draws c = not_draws
