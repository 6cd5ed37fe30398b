use Rattle.ul_core.proofs.RunsLaw.{run_more}
use Rattle.ul_core.proofs.laws.each_run_goes_on.Goals as goal

pub returns : goal.returns
returns g c s s' s'' events answers e a run step = run_more g.L.Label.hash_of s events answers s' e a s'' run step
