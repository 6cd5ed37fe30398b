use Rattle.std.proofs.Common.{◌≡◌, length}
use Rattle.ul_reach.specs.Rounds.{AreListed}
use Rattle.ul_reach.proofs.order.listed.Given as goal

abbrev pub invariant-loop-place : goal.invariant-loop-place
invariant-loop-place l = record {
  long : length l.flags.items ≡ l.count;
  each : AreListed l.flags.items l.places;
}
