use Rattle.ul_solver.proofs.MeasureLaws.{number_falls}
use Rattle.ul_solver.proofs.laws.number_falls.Goals as goal

pub returns : goal.returns
returns c = number_falls
