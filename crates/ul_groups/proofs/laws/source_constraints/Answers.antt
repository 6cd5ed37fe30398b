use Rattle.ul_groups.proofs.SourceExamples.{source_constraints}
use Rattle.ul_groups.proofs.laws.source_constraints.Goals as goal

pub returns : goal.returns
returns c = source_constraints
