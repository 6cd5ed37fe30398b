use Rattle.ul_interner.proofs.Showing.{interner_promises}
use Rattle.ul_interner.proofs.laws.interner_promises.Goals as goal

pub returns : goal.returns
returns g c = interner_promises g.L.Label.hash_of
