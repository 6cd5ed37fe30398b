use Rattle.ul_lock_commands.proofs.RowsGiven.{exports_are_exact as law}
use Rattle.ul_lock_commands.proofs.laws.exports_are_exact.Goals as goal

pub returns : goal.returns
returns c = law c.row_promises.ensures
