use Rattle.laws_promises.proofs.OfRelocks.{old_locks_do_no_harm as law, refusals_are_of_none}
use Rattle.laws_promises.proofs.laws.old_locks_do_no_harm.Goals as goal

pub returns-clause-zero : goal.returns-clause-zero
returns-clause-zero c = law c.old_locks_are_harmless.ensures.zero

pub returns-clause-one : goal.returns-clause-one
returns-clause-one c = refusals_are_of_none c.old_locks_are_harmless.ensures.one
