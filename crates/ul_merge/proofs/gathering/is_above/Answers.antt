use Rattle.ul_merge.proofs.Gathers.{stands}
use Rattle.ul_merge.proofs.gathering.is_above.Goals as goal

pub returns-in-Some : goal.returns-in-Some
returns-in-Some g c = stands g.K.Key.cmp _ _ _ _ _ c.in-Some.ensures.item.3 c.is_lt.ensures c.order.ensures
