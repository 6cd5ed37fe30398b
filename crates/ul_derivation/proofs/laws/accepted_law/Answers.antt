use Rattle.ul_problem.proofs.ForCallers.{accepted_none}
use Rattle.ul_derivation.proofs.laws.accepted_law.Goals as goal

pub returns : goal.returns
returns c = accepted_none
