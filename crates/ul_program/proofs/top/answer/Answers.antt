use Rattle.ul_program.proofs.Outputs.{answered, refused}
use Rattle.ul_program.proofs.top.answer.Goals as goal

pub returns-in-Ok-clause-output : goal.returns-in-Ok-clause-output
returns-in-Ok-clause-output g c =
    answered c.exports_are_exact.ensures _ c.ask-asked.result _ _ c.in-Ok.answer c.answer_output.result c.ask-asked.ensures.asked c.in-Ok.ensures.told c.in-Ok.ensures.cause c.in-Ok.ensures.by_words c.answer_output.ensures

pub returns-in-Err-clause-output : goal.returns-in-Err-clause-output
returns-in-Err-clause-output g c =
    refused c.exports_are_exact.ensures _ c.ask-asked.result _ _ c.in-Err.refusal c.refusal_output.result c.ask-asked.ensures.asked c.in-Err.ensures.told c.in-Err.ensures.cause c.in-Err.ensures.by_words
    c.refusal_output.ensures
