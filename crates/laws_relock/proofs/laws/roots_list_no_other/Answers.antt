use Rattle.laws_relock.proofs.Answered.{roots_list_no_other as law}
use Rattle.laws_relock.proofs.laws.roots_list_no_other.Goals as goal

pub returns : goal.returns
returns c = law c.fork_laws.ensures
