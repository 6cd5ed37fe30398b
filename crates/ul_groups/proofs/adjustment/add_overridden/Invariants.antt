use Rattle.std.proofs.Common.{◌≡◌, ◌++◌, map, take}
use Rattle.ul_groups.specs.Adjusted.{overridden_by}
use Rattle.ul_groups.proofs.adjustment.add_overridden.Given as goal

abbrev pub invariant-loop-by : goal.invariant-loop-by
invariant-loop-by l = l.list.items ≡ l.fn.list.items ++ map (overridden_by l.requirement) (take l.by-index l.overrides)
