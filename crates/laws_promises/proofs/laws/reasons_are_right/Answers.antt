use Rattle.laws_promises.proofs.OfReasons.{reasons_are_right as law}
use Rattle.laws_promises.proofs.laws.reasons_are_right.Goals as goal

pub returns : goal.returns
returns c = law c.fork_laws.ensures c.refusals_of_files.ensures.reasons
