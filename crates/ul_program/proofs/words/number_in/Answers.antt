use Rattle.std.proofs.Common.{◌≡◌, ◌∙◌, sym, true, arith}
use Rattle.ul_program.specs.Words.{is_number_in}
use Rattle.ul_program.proofs.Numbers.{number_parsed, number_unparsed}
use Rattle.ul_program.proofs.words.number_in.Goals as goal

pub returns-in-Ok-clause-value : goal.returns-in-Ok-clause-value
returns-in-Ok-clause-value c =
    let h : is_number_in c.args.low c.args.high c.args.word.now ≡ true = sym c.is_number_in.ensures ∙ c.if-not-is_number_in.false in
    sym (number_parsed (Unit {0}) c.args.low c.args.high c.in-Ok.number c.args.word.now h c.in-Ok.ensures.value.0).0

pub returns-in-Ok-clause-range : goal.returns-in-Ok-clause-range
returns-in-Ok-clause-range c =
    let h : is_number_in c.args.low c.args.high c.args.word.now ≡ true = sym c.is_number_in.ensures ∙ c.if-not-is_number_in.false in
    let all = number_parsed (Unit {0}) c.args.low c.args.high c.in-Ok.number c.args.word.now h c.in-Ok.ensures.value.0 in
    (all.1, all.2)

pub returns-in-Err-clause-value : goal.returns-in-Err-clause-value
returns-in-Err-clause-value c =
    let h : is_number_in c.args.low c.args.high c.args.word.now ≡ true = sym c.is_number_in.ensures ∙ c.if-not-is_number_in.false in
    absurd (number_unparsed _ c.args.low c.args.high c.in-Err.field-0 c.args.word.now (omega arith) h c.in-Err.ensures.value.0)
