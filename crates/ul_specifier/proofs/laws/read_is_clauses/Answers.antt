use Rattle.ul_specifier.proofs.LawProofs.{reads}
use Rattle.ul_specifier.proofs.laws.read_is_clauses.Goals as goal

pub returns : goal.returns
returns c = reads
