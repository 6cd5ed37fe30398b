use Rattle.ul_lock.proofs.Walks.{walk_is_least, walks_agree}
use Rattle.ul_lock.proofs.laws.walk_laws.Goals as goal

pub returns-clause-least : goal.returns-clause-least
returns-clause-least c = walk_is_least

pub returns-clause-agree : goal.returns-clause-agree
returns-clause-agree c = walks_agree
