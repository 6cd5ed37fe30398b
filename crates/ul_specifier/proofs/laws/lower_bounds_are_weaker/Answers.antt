use Rattle.ul_specifier.proofs.LawProofs.{weaker, settled}
use Rattle.ul_specifier.proofs.laws.lower_bounds_are_weaker.Goals as goal

pub returns : goal.returns
returns c = record { weaker = weaker; settled = settled }
