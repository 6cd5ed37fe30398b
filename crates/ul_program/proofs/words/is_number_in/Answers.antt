use Rattle.std.proofs.Common.{◌≡◌, ◌∙◌, sym, true, ap, arith}
use Rattle.std.proofs.lemmas.Bool.{lt-leb, le-leb}
use Rattle.ul_program.specs.Words.{is_decimal}
use Rattle.ul_program.proofs.Numbers.{parsed, unparsed}
use Rattle.ul_program.proofs.words.is_number_in.Goals as goal

pub returns-then-low-number : goal.returns-then-low-number
returns-then-low-number c =
    let decimal : is_decimal c.args.word.now ≡ true = ap is_decimal (sym c.as_bytes.ensures.value) ∙ sym c.is_decimal.ensures ∙ c.if-not-is_decimal.false in
    let told = parsed (Unit {0}) c.args.low c.args.high c.in-Ok.number c.args.word.now decimal c.in-Ok.ensures.value.0 in
    rw (le-leb _ _ c.if-low-number.true) at told

pub returns-else-low-number : goal.returns-else-low-number
returns-else-low-number c =
    let decimal : is_decimal c.args.word.now ≡ true = ap is_decimal (sym c.as_bytes.ensures.value) ∙ sym c.is_decimal.ensures ∙ c.if-not-is_decimal.false in
    let told = parsed (Unit {0}) c.args.low c.args.high c.in-Ok.number c.args.word.now decimal c.in-Ok.ensures.value.0 in
    rw (lt-leb _ _ c.if-low-number.false) (rw (lt-leb _ _ c.if-low-number.false) at told)

pub returns-in-Err : goal.returns-in-Err
returns-in-Err c =
    let decimal : is_decimal c.args.word.now ≡ true = ap is_decimal (sym c.as_bytes.ensures.value) ∙ sym c.is_decimal.ensures ∙ c.if-not-is_decimal.false in
    sym (unparsed _ c.args.low c.args.high c.in-Err.field-0 c.args.word.now (omega arith) decimal c.in-Err.ensures.value.0)
