use Rattle.ul_split.proofs.Splits.{core_split_once}
use Rattle.ul_split.proofs.laws.core_split_once.Goals as goal

pub returns : goal.returns
returns c = core_split_once
