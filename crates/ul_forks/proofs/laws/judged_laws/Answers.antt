use Rattle.ul_forks.proofs.Judged.{judged_laws}
use Rattle.ul_forks.proofs.laws.judged_laws.Goals as goal

pub returns : goal.returns
returns c = judged_laws c.accepted_law.ensures c.nothing_serves.ensures
