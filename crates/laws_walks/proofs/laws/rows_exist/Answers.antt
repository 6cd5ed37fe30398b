use Rattle.laws_walks.proofs.Rows.{rows_exist as law}
use Rattle.laws_walks.proofs.laws.rows_exist.Goals as goal

pub returns : goal.returns
returns c = law
