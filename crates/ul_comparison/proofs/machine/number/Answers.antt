use Rattle.std.proofs.Common.{◌≢◌, get_or, true≢false, lit<, sym, ◌∙◌}
use Rattle.std.proofs.lemmas.Str.Pattern.{starts_char}
use Rattle.ul_comparison.proofs.Numerals.{number_of-parse, number_of-plus}
use Rattle.ul_comparison.proofs.machine.number.Goals as goal

pub returns-then-starts_with : goal.returns-then-starts_with
returns-then-starts_with c =
    sym (number_of-plus c.args.digits.now ((starts_char 43 c.args.digits.now c.starts_with.result c.starts_with.ensures.cases (lit< tt) (lit< tt)).0 c.if-starts_with.true))

pub returns : goal.returns
returns c =
    let plain : get_or c.args.digits.now 0 0 ≢ 43 = λ plus. true≢false (sym ((starts_char 43 c.args.digits.now c.starts_with.result c.starts_with.ensures.cases (lit< tt) (lit< tt)).1 plus) ∙ c.if-starts_with.false) in
    c.ok.ensures.value ∙ number_of-parse c.args.digits.now c.parse.result c.parse.ensures.value.0 plain
