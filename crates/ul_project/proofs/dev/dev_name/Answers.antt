use Rattle.ul_project.proofs.DevGroup.{dev_read}
use Rattle.ul_project.proofs.dev.dev_name.Goals as goal

pub returns-in-Ok : goal.returns-in-Ok
returns-in-Ok c = dev_read c.in-Ok.name c.in-Ok.ensures
