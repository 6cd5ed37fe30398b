use Rattle.ul_project.proofs.ProjectExamples.{wide_files}
use Rattle.ul_project.proofs.laws.wide_files.Goals as goal

pub returns : goal.returns
returns c = wide_files
