use Rattle.ul_specifier.proofs.LawProofs.{less, more}
use Rattle.ul_specifier.proofs.laws.bounds_part_the_order.Goals as goal

pub returns : goal.returns
returns c = record { less = less; more = more }
