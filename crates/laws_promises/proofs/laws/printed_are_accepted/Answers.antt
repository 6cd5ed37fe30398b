use Rattle.laws_promises.proofs.OfReasons.{printed_are_accepted as law}
use Rattle.laws_promises.proofs.laws.printed_are_accepted.Goals as goal

pub returns : goal.returns
returns c = law c.fork_laws.ensures c.reasons_are_accepted.ensures.files
