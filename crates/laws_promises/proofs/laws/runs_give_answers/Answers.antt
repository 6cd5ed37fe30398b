use Rattle.laws_promises.proofs.OfRuns.{runs_give_answers, runs_of_lock_are_right}
use Rattle.laws_promises.proofs.laws.runs_give_answers.Goals as goal

pub returns-clause-answers : goal.returns-clause-answers
returns-clause-answers c = runs_give_answers

pub returns-clause-locks : goal.returns-clause-locks
returns-clause-locks c = runs_of_lock_are_right runs_give_answers c.locks_are_right.ensures
