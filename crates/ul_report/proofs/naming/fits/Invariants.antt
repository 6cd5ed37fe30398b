use Rattle.std.proofs.Common.{drop}
use Rattle.ul_report.specs.Naming.{HaveNames}
use Rattle.ul_report.proofs.Nameable.{IsAlike}
use Rattle.ul_report.proofs.naming.fits.Given as goal

abbrev pub invariant-loop-step : goal.invariant-loop-step
invariant-loop-step l = IsAlike (HaveNames l.problem (drop l.step-index l.steps)) (HaveNames l.problem l.steps)
