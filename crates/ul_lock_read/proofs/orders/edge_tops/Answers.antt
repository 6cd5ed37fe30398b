use Rattle.std.proofs.Common.{rules, sym}
use Rattle.ul_lock_read.proofs.Rising.{tops_last}
use Rattle.ul_lock_read.proofs.orders.edge_tops.Goals as goal

pub returns-in-Some : goal.returns-in-Some
returns-in-Some c = rw (tops_last _ _ _ _ (sym c.in-Some.ensures.value)) (search rules)
