use Rattle.std.proofs.Common.{refl}
use Rattle.ul_files.proofs.laws.write_examples.Goals as goal

pub returns-clause-part : goal.returns-clause-part
returns-clause-part c = (3, refl, refl)

pub returns-clause-short : goal.returns-clause-short
returns-clause-short c = (3, refl, refl)
