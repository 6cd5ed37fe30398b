use Rattle.ul_problem.specs.Best.{version_in}
use Rattle.ul_problem.proofs.ForCallers.{best_serves}
use Rattle.ul_solver.proofs.Existing.{best_exists}
use Rattle.ul_solver.proofs.laws.best_exists.Goals as goal

pub returns : goal.returns
returns c = λ p wf. ((λ b. (version_in b.0, best_serves p b.0 wf b.1)), (λ s. best_exists p s.0 wf s.1))
