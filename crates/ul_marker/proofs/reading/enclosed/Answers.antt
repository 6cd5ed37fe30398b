use Rattle.std.proofs.Common.{arith, sym}
use Rattle.ul_marker.proofs.Chains.{enclosed-both, enclosed-close, enclosed-open, enclosed-short}
use Rattle.ul_marker.proofs.reading.enclosed.Goals as goal

pub returns-then-not-is_open : goal.returns-then-not-is_open
returns-then-not-is_open c =
    sym (enclosed-open c.args.tokens.now c.first-item.result (omega arith) c.first-item.is (sym c.if-not-is_open.ensures))

pub returns-then-not-is_close : goal.returns-then-not-is_close
returns-then-not-is_close c =
    sym (enclosed-close c.args.tokens.now c.first-item.result c.last-item.result (omega arith) c.first-item.is (sym c.if-not-is_open.ensures)
    c.last-item.is (sym c.if-not-is_close.ensures))

pub returns-in_default : goal.returns-in_default
returns-in_default c = sym (enclosed-short c.args.tokens.now (omega arith))

pub returns-else-not-is_close : goal.returns-else-not-is_close
returns-else-not-is_close c =
    sym (enclosed-both c.args.tokens.now c.first-item.result c.last-item.result (omega arith) c.first-item.is (sym c.if-not-is_open.ensures)
    c.last-item.is (sym c.if-not-is_close.ensures))
