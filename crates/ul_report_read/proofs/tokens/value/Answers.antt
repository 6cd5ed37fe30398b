use Rattle.std.proofs.Common.{◌∙◌, ap}
use Rattle.ul_report_read.specs.Tokens.{is_decimal, value_at}
use Rattle.ul_report_read.proofs.Numbers.{decimal_ascii, parsed, unparsed}
use Rattle.ul_report_read.proofs.tokens.value.Goals as goal

pub text_of_ascii-text-requires : goal.text_of_ascii-text-requires
text_of_ascii-text-requires c = decimal_ascii c.args.bytes.now c.requires

pub returns-in-Ok : goal.returns-in-Ok
returns-in-Ok c =
    parsed (Unit {0}) c.in-Ok.number c.text_of_ascii-text.result.now (ap is_decimal c.text_of_ascii-text.ensures ∙ c.requires) c.in-Ok.ensures.value.0 ∙ ap value_at c.text_of_ascii-text.ensures

pub returns-in-Err : goal.returns-in-Err
returns-in-Err c =
    unparsed _ c.in-Err.field-0 c.text_of_ascii-text.result.now (ap is_decimal c.text_of_ascii-text.ensures ∙ c.requires) c.in-Err.ensures.value.0 ∙ ap value_at c.text_of_ascii-text.ensures
