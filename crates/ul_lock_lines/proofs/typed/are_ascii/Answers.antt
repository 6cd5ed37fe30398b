use Rattle.std.proofs.Common.{get_or, refl}
use Rattle.std.proofs.lemmas.Bool.{le-ltb, lt-ltb}
use Rattle.std.specs.Char.{is_ascii}
use Rattle.ul_lock_lines.proofs.Escapes.{failed_at, passed_all, passed_on}
use Rattle.ul_lock_lines.proofs.typed.are_ascii.Goals as goal

pub loop-byte-init : goal.loop-byte-init
loop-byte-init c = refl

pub loop-byte-preserved : goal.loop-byte-preserved
loop-byte-preserved c = passed_on is_ascii c.args.bytes.now c.loop-byte.byte-index c.loop-byte-test.true (lt-ltb (get_or c.args.bytes.now c.loop-byte.byte-index 0) 128 c.if-byte-ge128.false) c.loop-byte.invariant

pub returns-then-byte-ge128 : goal.returns-then-byte-ge128
returns-then-byte-ge128 c = failed_at is_ascii c.args.bytes.now c.loop-byte.byte-index c.loop-byte-test.true (le-ltb (get_or c.args.bytes.now c.loop-byte.byte-index 0) 128 c.if-byte-ge128.true) c.loop-byte.invariant

pub returns : goal.returns
returns c = passed_all is_ascii c.args.bytes.now c.loop-byte.byte-index c.loop-byte-test.false c.loop-byte.invariant
