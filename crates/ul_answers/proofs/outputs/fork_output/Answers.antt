use Rattle.std.proofs.Common.{◌++◌, subst}
use Rattle.std.proofs.lemmas.Result.{IfOk-weaker}
use Rattle.ul_marker_text.specs.Faults.{IsTextFault}
use Rattle.ul_report.specs.Texts.{refusal_text}
use Rattle.ul_answers.proofs.Limits.{region_passed}
use Rattle.ul_answers.specs.Views.{output_view}
use Rattle.ul_answers.proofs.outputs.fork_output.Goals as goal

pub returns-in-Err : goal.returns-in-Err
returns-in-Err c =
    IfOk-weaker c.passed_output.result _ _ (λ o is. region_passed c.args.region.now (refusal_text c.args.path.now c.args.region.now ++ c.args.steps.now) c.in-Err.fault _ (output_view o)
    (subst (λ t. IsTextFault t c.in-Err.fault) c.as_tree.ensures.tree c.in-Err.ensures.refused) c.marker_limit.ensures is) c.passed_output.ensures
