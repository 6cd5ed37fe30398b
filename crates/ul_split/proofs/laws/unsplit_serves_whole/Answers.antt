use Rattle.ul_split.proofs.LeafLaws.{unsplit_serves_whole}
use Rattle.ul_split.proofs.laws.unsplit_serves_whole.Goals as goal

pub returns : goal.returns
returns c = unsplit_serves_whole c.unsplit_whole.ensures
