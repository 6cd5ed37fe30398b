use Rattle.ul_project.proofs.SourceNames.{direct_read}
use Rattle.ul_project.proofs.sources.direct.Goals as goal

pub returns-in-Ok : goal.returns-in-Ok
returns-in-Ok c = direct_read c.in-Ok.name c.in-Ok.ensures
