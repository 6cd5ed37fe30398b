use Rattle.ul_claims.proofs.laws.worked_seats.Goals as goal
use Rattle.ul_claims.proofs.Worked.{gathered}

pub returns : goal.returns
returns c = gathered
