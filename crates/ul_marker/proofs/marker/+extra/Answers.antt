use Rattle.std.proofs.Common.{arith, refl}
use Rattle.ul_marker.proofs.Walks.{asks_end, asks_found, asks_next}
use Rattle.ul_marker.proofs.marker.+extra.Goals as goal

pub some_asks_extra-loop-part-init : goal.some_asks_extra-loop-part-init
some_asks_extra-loop-part-init t c = refl

pub some_asks_extra-loop-part-preserved : goal.some_asks_extra-loop-part-preserved
some_asks_extra-loop-part-preserved t c =
    asks_next _ _ _ _ _ c.asks_extra.ensures c.if-asks_extra.false c.loop-part-test.true c.part-item.is c.loop-part.invariant

pub some_asks_extra-returns-then-asks_extra : goal.some_asks_extra-returns-then-asks_extra
some_asks_extra-returns-then-asks_extra t c =
    asks_found _ _ _ _ _ c.asks_extra.ensures c.if-asks_extra.true c.loop-part-test.true c.part-item.is c.loop-part.invariant

pub some_asks_extra-returns : goal.some_asks_extra-returns
some_asks_extra-returns t c = asks_end c.args.parts.now _ c.loop-part.part-index (omega arith) c.loop-part.invariant
