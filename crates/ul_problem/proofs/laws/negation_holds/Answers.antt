use Rattle.ul_problem.proofs.TermLaws.{allows-negation}
use Rattle.ul_problem.proofs.laws.negation_holds.Goals as goal

pub returns : goal.returns
returns c = allows-negation
