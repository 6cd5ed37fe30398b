use Rattle.ul_load.proofs.Ends.{loading_ends}
use Rattle.ul_load.proofs.laws.loading_ends.Goals as goal

pub returns : goal.returns
returns c = loading_ends
