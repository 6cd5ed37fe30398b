use Rattle.std.proofs.Common.{take}
use Rattle.ul_merge.specs.Gathered.{AreRuns}
use Rattle.ul_merge.proofs.gathering.runs_of.Given as goal

abbrev pub invariant-loop-group : goal.invariant-loop-group
invariant-loop-group g l = AreRuns g.K.Key.cmp (take l.group-index l.groups) l.runs.items
