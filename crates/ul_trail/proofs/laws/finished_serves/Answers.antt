use Rattle.ul_trail.proofs.Finished.{finished_serves}
use Rattle.ul_trail.proofs.laws.finished_serves.Goals as goal

pub returns : goal.returns
returns c = finished_serves
