use Rattle.laws_promises.proofs.OfFiles.{verified_are_right, verified_environments_are_right}
use Rattle.laws_promises.proofs.laws.verified_are_right.Goals as goal

pub returns-clause-locks : goal.returns-clause-locks
returns-clause-locks c = verified_are_right c.verified_files.ensures.sound

pub returns-clause-environments : goal.returns-clause-environments
returns-clause-environments c =
    verified_environments_are_right c.machines_have_worlds.ensures.worlds c.machines_have_worlds.ensures.files c.locks_have_atoms.ensures
    c.verified_files.ensures.environments c.verified_files.ensures.statuses
