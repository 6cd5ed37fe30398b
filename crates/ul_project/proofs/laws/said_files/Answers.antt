use Rattle.ul_project.proofs.ProjectExamples.{said_files}
use Rattle.ul_project.proofs.laws.said_files.Goals as goal

pub returns : goal.returns
returns c = said_files
