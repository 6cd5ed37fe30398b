use Rattle.ul_specifier.proofs.LawProofs.{unequal, compatible, distinct}
use Rattle.ul_specifier.proofs.laws.operators_are_related.Goals as goal

pub returns : goal.returns
returns c = record { unequal = unequal; compatible = compatible; distinct = distinct }
