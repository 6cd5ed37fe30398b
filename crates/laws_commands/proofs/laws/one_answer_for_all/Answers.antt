use Rattle.laws_commands.proofs.Workers.{one_for_all}
use Rattle.laws_commands.proofs.laws.one_answer_for_all.Goals as goal

pub returns : goal.returns
returns c = one_for_all c.answers_are_one.ensures c.workers_dont_matter.ensures
