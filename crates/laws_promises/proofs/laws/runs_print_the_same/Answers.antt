use Rattle.laws_promises.proofs.OfRepeated.{reasons_print_the_same, runs_print_the_same}
use Rattle.laws_promises.proofs.laws.runs_print_the_same.Goals as goal

pub returns-clause-runs : goal.returns-clause-runs
returns-clause-runs c = runs_print_the_same c.answers_are_equal.ensures c.workers_change_nothing.ensures

pub returns-clause-reasons : goal.returns-clause-reasons
returns-clause-reasons c = reasons_print_the_same c.fork_laws.ensures c.answers_are_one.ensures
