use Rattle.std.proofs.Common.{refl, sym, ◌∙◌}
use Rattle.ul_requirement.specs.Fields.{is_file_byte}
use Rattle.ul_lock_lines.proofs.Escapes.{failed_at, passed_all, passed_on}
use Rattle.ul_lock_lines.proofs.typed.are_file_bytes.Goals as goal

pub loop-byte-init : goal.loop-byte-init
loop-byte-init c = refl

pub loop-byte-preserved : goal.loop-byte-preserved
loop-byte-preserved c = passed_on is_file_byte c.args.bytes.now c.loop-byte.byte-index c.loop-byte-test.true (sym c.is_file.ensures ∙ c.if-not-is_file.false) c.loop-byte.invariant

pub returns-then-not-is_file : goal.returns-then-not-is_file
returns-then-not-is_file c = failed_at is_file_byte c.args.bytes.now c.loop-byte.byte-index c.loop-byte-test.true (sym c.is_file.ensures ∙ c.if-not-is_file.true) c.loop-byte.invariant

pub returns : goal.returns
returns c = passed_all is_file_byte c.args.bytes.now c.loop-byte.byte-index c.loop-byte-test.false c.loop-byte.invariant
