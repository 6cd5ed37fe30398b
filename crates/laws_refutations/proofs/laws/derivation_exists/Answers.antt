use Rattle.laws_refutations.proofs.Derivations.{derivation_exists as law}
use Rattle.laws_refutations.proofs.laws.derivation_exists.Goals as goal

pub returns : goal.returns
returns c = law
