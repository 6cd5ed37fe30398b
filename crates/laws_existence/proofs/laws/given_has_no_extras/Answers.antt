use Rattle.laws_existence.proofs.NoExtras.{given_has_no_extras as law}
use Rattle.laws_existence.proofs.laws.given_has_no_extras.Goals as goal

pub returns : goal.returns
returns c = law
