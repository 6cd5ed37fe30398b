use Rattle.std.proofs.Common.{◌-◌}
use Rattle.ul_version.specs.Fields.{Fields}
use Rattle.ul_version.specs.Order.{version_cmp}
use Rattle.ul_report_judge.proofs.Halving.{IsHalved}
use Rattle.ul_report_judge.proofs.places.place_of_version.Given as goal

abbrev pub invariant-loop-low : goal.invariant-loop-low
invariant-loop-low l = IsHalved (λ (v : Fields). v) version_cmp l.versions l.version l.low l.high

abbrev pub decreases-loop-low : goal.decreases-loop-low
decreases-loop-low l = l.high - l.low
