use Rattle.ul_reach.specs.Rounds.{AreListed, ListsAll}
use Rattle.ul_reach.proofs.order.with_others.Given as goal

abbrev pub invariant-loop-place : goal.invariant-loop-place
invariant-loop-place l = record {
  each : AreListed l.flags.items l.all.items;
  before : ListsAll l.place l.all.items;
}
