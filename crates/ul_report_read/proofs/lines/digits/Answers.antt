use Rattle.std.proofs.Common.{arith, refl, sym, ◌∙◌}
use Rattle.std.proofs.lemmas.Grind.{common_steps}
use Rattle.ul_report_read.specs.LineReading.{digit_at, digits_at}
use Rattle.ul_report_read.proofs.Loops.{next_number, none_number}
use Rattle.ul_report_read.proofs.lines.digits.Goals as goal

pub loop-byte-preserved : goal.loop-byte-preserved
loop-byte-preserved c =
    rw c.in_ok-push-in-Some.ensures.items
    (next_number digit_at digits_at (λ x xs. refl) c.loop-byte.digits.items c.args.bytes.now c.loop-byte.byte-index c.in-Some.step (grind (arith, common_steps)) (sym c.digit.ensures ∙ c.in-Some.is) c.loop-byte.invariant)

pub returns-in-None : goal.returns-in-None
returns-in-None c =
    none_number digit_at digits_at (λ x xs. refl) c.loop-byte.digits.items c.args.bytes.now c.loop-byte.byte-index (grind (arith, common_steps)) (sym c.digit.ensures ∙ c.in-None.is) c.loop-byte.invariant
