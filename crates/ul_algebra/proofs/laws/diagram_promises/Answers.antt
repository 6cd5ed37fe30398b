use Rattle.ul_algebra.proofs.Promises.{diagram_promises}
use Rattle.ul_algebra.proofs.laws.diagram_promises.Goals as goal

pub returns : goal.returns
returns c = diagram_promises c.interner_promises.ensures
