use Rattle.ul_split.proofs.Once.{split_once}
use Rattle.ul_split.proofs.laws.split_once.Goals as goal

pub returns : goal.returns
returns c = split_once
