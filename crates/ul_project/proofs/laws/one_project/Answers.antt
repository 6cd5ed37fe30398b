use Rattle.ul_project.proofs.ProjectLaws.{one_project}
use Rattle.ul_project.proofs.laws.one_project.Goals as goal

pub returns : goal.returns
returns c = one_project
