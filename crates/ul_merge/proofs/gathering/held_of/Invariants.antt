use Rattle.std.proofs.Common.{map, take}
use Rattle.ul_merge.specs.Gathered.{HoldBundles, entry_bundle}
use Rattle.ul_merge.proofs.gathering.held_of.Given as goal

abbrev pub invariant-loop-entry : goal.invariant-loop-entry
invariant-loop-entry g l = HoldBundles g.K.Key.cmp (map entry_bundle (take l.entry-index l.entries)) l.groups.items
