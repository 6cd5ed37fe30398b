use Rattle.ul_interner.proofs.Worked.{newest}
use Rattle.ul_interner.proofs.laws.newest_vectors.Goals as goal

pub returns : goal.returns
returns c = newest
