use Rattle.std.proofs.Common.{arith, sym, ◌∙◌, length}
use Rattle.std.proofs.lemmas.List.{take_rest, drop_all}
use Rattle.ul_version.proofs.Cuts.{number_from-start, number_from-digit, number_from-over, number_from-stop, number_from-end}
use Rattle.ul_version.proofs.reading.number.Goals as goal

pub digits-init : goal.digits-init
digits-init c = (omega arith, number_from-start _)

pub returns-then-not-is_ascii_digit : goal.returns-then-not-is_ascii_digit
returns-then-not-is_ascii_digit c =
    let xs = c.args.input.now in
    rw (take_rest xs c.digits.i) (sym (c.digits.invariant.1
    ∙ number_from-stop c.digits.value xs c.digits.i c.digits.invariant.0 c.digits-test.true (sym c.if-not-is_ascii_digit.ensures.value)))

pub returns-in_default : goal.returns-in_default
returns-in_default c =
    let xs = c.args.input.now in
    sym (c.digits.invariant.1
    ∙ number_from-over c.digits.value xs c.digits.i c.digits-test.true (sym c.if-not-is_ascii_digit.ensures.value) c.in_default.ensures.none)

pub digits-preserved : goal.digits-preserved
digits-preserved c =
    let xs = c.args.input.now in
    let sum = c.in-Some.ensures.some in (
      sum.1,
      rw sum.0 (c.digits.invariant.1
          ∙ number_from-digit c.digits.value xs c.digits.i c.digits-test.true (sym c.if-not-is_ascii_digit.ensures.value)),
    )

pub returns : goal.returns
returns c =
    let xs = c.args.input.now in
    rw (take_rest xs (length xs), drop_all (length xs) xs (omega arith)) (sym (c.digits.invariant.1
    ∙ number_from-end c.digits.value xs c.digits.i c.digits.invariant.0 (omega arith)))
