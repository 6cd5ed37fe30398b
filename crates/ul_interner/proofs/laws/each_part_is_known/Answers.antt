use Rattle.ul_interner.proofs.Knowing.{known_part}
use Rattle.ul_interner.proofs.laws.each_part_is_known.Goals as goal

pub returns : goal.returns
returns g c h m p k known at = known_part h m k p known at
