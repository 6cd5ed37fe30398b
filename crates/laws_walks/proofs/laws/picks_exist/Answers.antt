use Rattle.laws_walks.proofs.Picked.{picks_exist as law}
use Rattle.laws_walks.proofs.laws.picks_exist.Goals as goal

pub returns : goal.returns
returns c = law
