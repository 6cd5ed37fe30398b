use Rattle.laws_given.proofs.Requirements.{requirements_are_named as law}
use Rattle.laws_given.proofs.laws.requirements_are_named.Goals as goal

pub returns : goal.returns
returns c = law
