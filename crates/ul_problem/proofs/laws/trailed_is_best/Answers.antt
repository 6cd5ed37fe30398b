use Rattle.std.proofs.Common.{[]}
use Rattle.ul_problem.proofs.BestLaws.{trailed_best}
use Rattle.ul_problem.proofs.laws.trailed_is_best.Goals as goal

pub returns : goal.returns
returns c = λ p d σ s a t. trailed_best p [] d σ s a t
