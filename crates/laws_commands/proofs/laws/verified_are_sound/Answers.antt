use Rattle.laws_commands.proofs.Verified.{verified_are_sound as law}
use Rattle.laws_commands.proofs.laws.verified_are_sound.Goals as goal

pub returns : goal.returns
returns c = law c.verified_laws.ensures
