use Rattle.laws_promises.proofs.OfLocks.{locks_are_right as law}
use Rattle.laws_promises.proofs.laws.locks_are_right.Goals as goal

pub returns : goal.returns
returns c = law c.locks_within_limits.ensures c.given_is_resolution.ensures.resolution c.given_has_texts.ensures c.locks_are_well_formed.ensures c.locks_are_sound.ensures.sound
