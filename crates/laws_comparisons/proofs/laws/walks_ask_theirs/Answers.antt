use Rattle.laws_comparisons.proofs.Walks.{walks_ask_theirs as law}
use Rattle.laws_comparisons.proofs.laws.walks_ask_theirs.Goals as goal

pub returns : goal.returns
returns c = law
