use Rattle.ul_project.proofs.ProjectExamples.{later_faults}
use Rattle.ul_project.proofs.laws.later_faults.Goals as goal

pub returns : goal.returns
returns c = later_faults
