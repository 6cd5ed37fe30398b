use Rattle.ul_groups.proofs.SourceLaws.{sources_are_constraints}
use Rattle.ul_groups.proofs.laws.sources_are_constraints.Goals as goal

pub returns : goal.returns
returns c = sources_are_constraints
