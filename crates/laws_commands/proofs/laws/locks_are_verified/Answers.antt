use Rattle.laws_commands.proofs.Statuses.{statuses_of_files}
use Rattle.laws_commands.proofs.VerifiedFiles.{locks_are_verified as law}
use Rattle.laws_commands.proofs.laws.locks_are_verified.Goals as goal

pub returns-clause-verified : goal.returns-clause-verified
returns-clause-verified c = law c.inputs_by_what_is_read.ensures c.printed_laws.ensures

pub returns-clause-statuses : goal.returns-clause-statuses
returns-clause-statuses c = statuses_of_files c.inputs_are_answered.ensures c.more_comparisons.ensures c.printed_laws.ensures
