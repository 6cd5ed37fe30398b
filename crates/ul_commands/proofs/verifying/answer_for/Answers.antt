use Rattle.ul_inputs.specs.Resolutions.{view}
use Rattle.ul_commands.proofs.Verdicts.{judged_answer}
use Rattle.ul_commands.proofs.verifying.answer_for.Goals as goal

pub returns : goal.returns
returns g c =
    judged_answer (view c.args.resolution.now) c.args.lock.now c.verify-judgement.result c.answer_of.result c.verify-judgement.ensures.answer c.answer_of.ensures
