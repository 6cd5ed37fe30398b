use Rattle.ul_version.proofs.LawProofs.{order, ties}
use Rattle.ul_version.proofs.laws.order_is_total.Goals as goal

pub returns : goal.returns
returns c = record { order = order; ties = ties }
