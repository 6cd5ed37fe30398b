use Rattle.std.proofs.Common.{drop}
use Rattle.std.specs.Prelude.{◌↔◌}
use Rattle.ul_ranges.proofs.Merging.{IsRisingFrom}
use Rattle.ul_ranges.proofs.cuts.Cuts.fits.Given as goal

abbrev pub invariant-loop-start : goal.invariant-loop-start
invariant-loop-start l = IsRisingFrom l.least (drop l.start-index l.starts) ↔ IsRisingFrom 0 l.starts
