use Rattle.std.proofs.Common.{[]}
use Rattle.ul_problem.proofs.ForCallers.{best_one_from}
use Rattle.ul_solver.proofs.laws.best_is_one.Goals as goal

pub returns : goal.returns
returns c = λ p d e a b. best_one_from p [] d e a b
