use Rattle.std.proofs.Common.{◌≡◌, ◌++◌, map, take}
use Rattle.ul_groups.specs.Adjusted.{constrained_by}
use Rattle.ul_groups.proofs.adjustment.add_constrained.Given as goal

abbrev pub invariant-loop-by : goal.invariant-loop-by
invariant-loop-by l = l.list.items ≡ l.fn.list.items ++ map (constrained_by l.requirement) (take l.by-index l.constraints)
