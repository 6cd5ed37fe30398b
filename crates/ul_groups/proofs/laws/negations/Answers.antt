use Rattle.ul_groups.proofs.Negations.{negations}
use Rattle.ul_groups.proofs.laws.negations.Goals as goal

pub returns : goal.returns
returns c = negations
