use Rattle.ul_problem.proofs.TermLaws.{allows-meet}
use Rattle.ul_problem.proofs.laws.meet_holds.Goals as goal

pub returns : goal.returns
returns c = allows-meet
