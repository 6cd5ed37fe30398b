use Rattle.ul_load.proofs.Ends.{turns_agree}
use Rattle.ul_load.proofs.laws.turns_agree.Goals as goal

pub returns : goal.returns
returns c = turns_agree
