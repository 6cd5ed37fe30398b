use Rattle.laws_walks.proofs.Few.{few_extras as law}
use Rattle.laws_walks.proofs.laws.few_extras.Goals as goal

pub returns : goal.returns
returns c = law
