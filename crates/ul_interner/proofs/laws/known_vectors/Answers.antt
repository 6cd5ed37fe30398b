use Rattle.ul_interner.proofs.Worked.{known}
use Rattle.ul_interner.proofs.laws.known_vectors.Goals as goal

pub returns : goal.returns
returns c = known
