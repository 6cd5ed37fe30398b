use Rattle.laws_commands.proofs.WellFormed.{given_are_well_formed as law}
use Rattle.laws_commands.proofs.laws.given_are_well_formed.Goals as goal

pub returns : goal.returns
returns c = law c.given_is_resolution.ensures.resolution c.given_has_texts.ensures c.locks_are_well_formed.ensures
