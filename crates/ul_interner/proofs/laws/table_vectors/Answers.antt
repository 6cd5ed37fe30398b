use Rattle.ul_interner.proofs.Worked.{tables}
use Rattle.ul_interner.proofs.laws.table_vectors.Goals as goal

pub returns : goal.returns
returns c = tables
