use Rattle.ul_problem.proofs.Relations.{relation_exact}
use Rattle.ul_problem.proofs.laws.relation_is_exact.Goals as goal

pub returns : goal.returns
returns c = relation_exact
