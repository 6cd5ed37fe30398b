use Rattle.ul_problem.proofs.ForCallers.{best_serves}
use Rattle.ul_solver.proofs.laws.best_serves.Goals as goal

pub returns : goal.returns
returns c = best_serves
