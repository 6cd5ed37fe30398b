use Rattle.ul_inputs.specs.Resolutions.{view}
use Rattle.ul_commands.proofs.Judgements.{judged_answer}
use Rattle.ul_commands.proofs.checking.judged.Goals as goal

pub returns : goal.returns
returns c =
    judged_answer (view c.args.resolution.now) c.args.proof.now c.args.problem.now c.judge.result c.answer_of.result c.requires c.judge.ensures c.answer_of.ensures
