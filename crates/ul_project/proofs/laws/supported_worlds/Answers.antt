use Rattle.ul_project.proofs.ProjectExamples.{supported_worlds}
use Rattle.ul_project.proofs.laws.supported_worlds.Goals as goal

pub returns : goal.returns
returns c = supported_worlds
