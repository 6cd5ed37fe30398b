use Rattle.ul_groups.proofs.GroupExamples.{expanded_groups}
use Rattle.ul_groups.proofs.laws.expanded_groups.Goals as goal

pub returns : goal.returns
returns c = expanded_groups
