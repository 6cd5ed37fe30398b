use Rattle.laws_commands.proofs.Answers.{why_follows_lock as law}
use Rattle.laws_commands.proofs.laws.why_follows_lock.Goals as goal

pub returns : goal.returns
returns c = law c.one_project.ensures c.turns_agree.ensures c.text_laws.ensures.different c.lock_faults.ensures c.fork_laws.ensures
