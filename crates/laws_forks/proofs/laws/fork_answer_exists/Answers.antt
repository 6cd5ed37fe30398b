use Rattle.laws_forks.proofs.Outcomes.{fork_answer_exists as law}
use Rattle.laws_forks.proofs.laws.fork_answer_exists.Goals as goal

pub returns : goal.returns
returns c = law c.outcome_exists.ensures
