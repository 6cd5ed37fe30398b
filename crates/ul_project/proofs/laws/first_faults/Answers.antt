use Rattle.ul_project.proofs.ProjectExamples.{first_faults}
use Rattle.ul_project.proofs.laws.first_faults.Goals as goal

pub returns : goal.returns
returns c = first_faults
