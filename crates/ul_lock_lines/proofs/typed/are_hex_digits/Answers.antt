use Rattle.std.proofs.Common.{refl, sym, ◌∙◌}
use Rattle.ul_requirement.specs.Fields.{is_hex}
use Rattle.ul_lock_lines.proofs.Escapes.{failed_at, passed_all, passed_on}
use Rattle.ul_lock_lines.proofs.typed.are_hex_digits.Goals as goal

pub loop-byte-init : goal.loop-byte-init
loop-byte-init c = refl

pub loop-byte-preserved : goal.loop-byte-preserved
loop-byte-preserved c = passed_on is_hex c.args.bytes.now c.loop-byte.byte-index c.loop-byte-test.true (sym c.is_hex_digit.ensures ∙ c.if-not-is_hex_digit.false) c.loop-byte.invariant

pub returns-then-not-is_hex_digit : goal.returns-then-not-is_hex_digit
returns-then-not-is_hex_digit c = failed_at is_hex c.args.bytes.now c.loop-byte.byte-index c.loop-byte-test.true (sym c.is_hex_digit.ensures ∙ c.if-not-is_hex_digit.true) c.loop-byte.invariant

pub returns : goal.returns
returns c = passed_all is_hex c.args.bytes.now c.loop-byte.byte-index c.loop-byte-test.false c.loop-byte.invariant
