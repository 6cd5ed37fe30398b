use Rattle.laws_commands.proofs.Statuses.{statuses_of_verified_files}
use Rattle.laws_commands.proofs.VerifiedFiles.{environments_of_verified_files, verified_files_are_sound}
use Rattle.laws_commands.proofs.laws.verified_files.Goals as goal

pub returns-clause-sound : goal.returns-clause-sound
returns-clause-sound c = verified_files_are_sound c.inputs_are_answered.ensures c.verified_are_sound.ensures

pub returns-clause-environments : goal.returns-clause-environments
returns-clause-environments c = environments_of_verified_files c.inputs_are_answered.ensures c.environments_of_verified.ensures

pub returns-clause-statuses : goal.returns-clause-statuses
returns-clause-statuses c = statuses_of_verified_files c.inputs_are_answered.ensures c.more_comparisons.ensures
