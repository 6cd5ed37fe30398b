use Rattle.ul_problem.proofs.TermLaws.{allows-join}
use Rattle.ul_problem.proofs.laws.join_holds.Goals as goal

pub returns : goal.returns
returns c = allows-join
