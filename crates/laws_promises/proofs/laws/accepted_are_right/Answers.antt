use Rattle.laws_promises.proofs.OfFiles.{accepted_are_right as law}
use Rattle.laws_promises.proofs.laws.accepted_are_right.Goals as goal

pub returns : goal.returns
returns c = law c.accepted_are_unserved.ensures
