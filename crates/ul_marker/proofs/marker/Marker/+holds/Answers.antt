use Rattle.std.proofs.Common.{arith}
use Rattle.ul_marker.proofs.Walks.{all_end, all_fail, all_next, any_end, any_found, any_next}
use Rattle.ul_marker.proofs.marker.Marker.+holds.Goals as goal

pub loop-part-preserved : goal.loop-part-preserved
loop-part-preserved t c =
    all_next _ _ _ _ _ _ _ c.holds.ensures c.if-not-holds.false c.loop-part-test.true c.part-item.is c.loop-part.invariant

pub returns-then-not-holds : goal.returns-then-not-holds
returns-then-not-holds t c =
    all_fail _ _ _ _ _ _ _ c.holds.ensures c.if-not-holds.true c.loop-part-test.true c.part-item.is c.loop-part.invariant

pub returns-after-loop-part : goal.returns-after-loop-part
returns-after-loop-part t c = all_end c.deref-part-items.result.now _ _ _ c.loop-part.part-index (omega arith) c.loop-part.invariant

pub loop-part-2-preserved : goal.loop-part-2-preserved
loop-part-2-preserved t c =
    any_next _ _ _ _ _ _ _ c.holds-in-loop-part-2.ensures c.if-holds.false c.loop-part-2-test.true c.part-item-in-loop-part-2.is c.loop-part-2.invariant

pub returns-then-holds : goal.returns-then-holds
returns-then-holds t c =
    any_found _ _ _ _ _ _ _ c.holds-in-loop-part-2.ensures c.if-holds.true c.loop-part-2-test.true c.part-item-in-loop-part-2.is c.loop-part-2.invariant

pub returns-after-loop-part-2 : goal.returns-after-loop-part-2
returns-after-loop-part-2 t c = any_end c.deref-part-items-in-Any.result.now _ _ _ c.loop-part-2.part-index (omega arith) c.loop-part-2.invariant
