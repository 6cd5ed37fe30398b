use Rattle.std.proofs.Common.{◌+◌, ◌-◌, arith, sym, ◌∙◌, length}
use Rattle.std.proofs.lemmas.List.{length-map}
use Rattle.std.specs.Char.{to_ascii_lowercase}
use Rattle.ul_version.specs.Reading.{lowercase_text}
use Rattle.ul_version.proofs.Cuts.{release-none, release-start, points-done, points-end, points-next, points-over}
use Rattle.ul_version.proofs.reading.release.Goals as goal

pub returns-in_default : goal.returns-in_default
returns-in_default c = release-none (lowercase_text c.args.input.now) (sym c.in_default.ensures)

pub numbers-init : goal.numbers-init
numbers-init c =
    rw c.in_ok-numbers.ensures.items
    (release-start (lowercase_text c.args.input.now) (lowercase_text c.in-Some.rest.now) (length c.args.input.now - 0) c.in-Some.first (omega (arith, length-map c.args.input.now to_ascii_lowercase)) (sym c.in-Some.ensures))

pub returns-in_default-marked : goal.returns-in_default-marked
returns-in_default-marked c =
    c.numbers.invariant ∙ points-done c.numbers.numbers.items (lowercase_text c.numbers.rest.now) _ (sym c.in_default-marked.ensures)

pub returns-in_default-number : goal.returns-in_default-number
returns-in_default-number c =
    c.numbers.invariant ∙ points-over c.numbers.numbers.items (lowercase_text c.numbers.rest.now) (lowercase_text c.in-Some-marked.digits.now) _
    (length c.args.input.now - (c.numbers._round + 1)) (omega arith) (sym c.in-Some-marked.ensures) (sym c.in_default-number.ensures)

pub numbers-preserved : goal.numbers-preserved
numbers-preserved c =
    rw c.in_ok-push.ensures.items
    (c.numbers.invariant ∙ points-next c.numbers.numbers.items (lowercase_text c.numbers.rest.now) (lowercase_text c.in-Some-marked.digits.now) (lowercase_text c.in-Some-number.after.now)
    c.in-Some-number.number _ (length c.args.input.now - (c.numbers._round + 1)) (omega arith) (sym c.in-Some-marked.ensures) (sym c.in-Some-number.ensures))

pub returns : goal.returns
returns c =
    c.numbers.invariant ∙ points-end c.numbers.numbers.items (lowercase_text c.numbers.rest.now) _ (omega arith)
