use Rattle.ul_claims.proofs.laws.worked_words.Goals as goal
use Rattle.ul_claims.proofs.Worked.{shown, not_shown}

pub returns-clause-shown : goal.returns-clause-shown
returns-clause-shown c = shown

pub returns-clause-not_shown : goal.returns-clause-not_shown
returns-clause-not_shown c = not_shown
