use Rattle.ul_groups.proofs.AdjustedExamples.{adjusted_requirements}
use Rattle.ul_groups.proofs.laws.adjusted_requirements.Goals as goal

pub returns : goal.returns
returns c = adjusted_requirements
