use Rattle.ul_interner.proofs.Knowing.{known_stays}
use Rattle.ul_interner.proofs.laws.each_known_stays.Goals as goal

pub returns : goal.returns
returns g c before after m more known = known_stays before after more m known
