use Rattle.laws_comparisons.proofs.LockAtoms.{locks_have_atoms as law}
use Rattle.laws_comparisons.proofs.laws.locks_have_atoms.Goals as goal

pub returns : goal.returns
returns c = law
