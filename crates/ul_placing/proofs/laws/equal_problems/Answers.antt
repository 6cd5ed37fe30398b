use Rattle.ul_placing.proofs.Equal.{equal_problems}
use Rattle.ul_placing.proofs.laws.equal_problems.Goals as goal

pub returns : goal.returns
returns c = equal_problems
