use Rattle.std.proofs.lemmas.Result.{IfOk-weaker}
use Rattle.ul_answers.proofs.Limits.{rows_passed}
use Rattle.ul_answers.specs.Views.{output_view}
use Rattle.ul_answers.proofs.outputs.export_output.Goals as goal

pub returns-in-Err : goal.returns-in-Err
returns-in-Err c = IfOk-weaker c.passed_output.result _ _ (λ o is. rows_passed c.args.rows.now c.in-Err.fault _ (output_view o) c.in-Err.ensures c.export_limit.ensures is) c.passed_output.ensures
