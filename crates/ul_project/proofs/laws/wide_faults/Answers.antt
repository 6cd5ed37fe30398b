use Rattle.ul_project.proofs.ProjectExamples.{wide_faults}
use Rattle.ul_project.proofs.laws.wide_faults.Goals as goal

pub returns : goal.returns
returns c = wide_faults
