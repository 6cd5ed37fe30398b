use Rattle.laws_comparisons.proofs.Extras.{asked_have_no_extras as law}
use Rattle.laws_comparisons.proofs.laws.asked_have_no_extras.Goals as goal

pub returns : goal.returns
returns c = law
