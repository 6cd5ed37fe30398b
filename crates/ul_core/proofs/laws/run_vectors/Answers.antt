use Rattle.std.proofs.Common.{refl}
use Rattle.ul_core.proofs.Worked.{worked}
use Rattle.ul_core.proofs.laws.run_vectors.Goals as goal

pub returns : goal.returns
returns c = record { in_turn = worked; full = (refl, refl) }
