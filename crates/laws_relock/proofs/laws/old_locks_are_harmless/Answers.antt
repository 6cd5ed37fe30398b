use Rattle.laws_relock.proofs.Harmless.{old_locks_are_harmless, refusals_are_anew}
use Rattle.laws_relock.proofs.laws.old_locks_are_harmless.Goals as goal

pub returns-clause-zero : goal.returns-clause-zero
returns-clause-zero c =
    old_locks_are_harmless c.answers_are_equal.ensures c.text_laws.ensures.different c.one_fault.ensures

pub returns-clause-one : goal.returns-clause-one
returns-clause-one c = refusals_are_anew
