use Rattle.laws_refutations.proofs.Judging.{steps_are_judged as law}
use Rattle.laws_refutations.proofs.laws.steps_are_judged.Goals as goal

pub returns : goal.returns
returns c = law
