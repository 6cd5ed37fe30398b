use Rattle.laws_promises.proofs.OfFiles.{environments_are_right as law}
use Rattle.laws_promises.proofs.laws.environments_are_right.Goals as goal

pub returns : goal.returns
returns c =
    law c.machines_have_worlds.ensures.worlds c.machines_have_worlds.ensures.files c.locks_have_atoms.ensures
    c.given_is_resolution.ensures.resolution c.given_has_texts.ensures c.locks_are_well_formed.ensures
    c.locks_within_limits.ensures c.environments_of_files.ensures c.locks_are_verified.ensures.statuses
