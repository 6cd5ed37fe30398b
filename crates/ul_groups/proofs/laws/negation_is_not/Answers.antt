use Rattle.ul_groups.proofs.Negations.{negation_is_not}
use Rattle.ul_groups.proofs.laws.negation_is_not.Goals as goal

pub returns : goal.returns
returns c = negation_is_not
