use Rattle.laws_commands.proofs.Refusals.{reasons_of_files, refusals_of_files}
use Rattle.laws_commands.proofs.laws.refusals_of_files.Goals as goal

pub returns-clause-locks : goal.returns-clause-locks
returns-clause-locks c =
    refusals_of_files c.inputs_are_answered.ensures c.given_is_resolution.ensures.resolution c.refused_are_unserved.ensures.answers

pub returns-clause-reasons : goal.returns-clause-reasons
returns-clause-reasons c =
    reasons_of_files c.inputs_are_answered.ensures c.given_is_resolution.ensures.resolution c.refused_are_unserved.ensures.forks
