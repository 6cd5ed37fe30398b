use Rattle.std.proofs.Common.{◌≡◌, ◌++◌, map, take}
use Rattle.ul_requirement.specs.Truth.{with_extra}
use Rattle.ul_merge.specs.Rows.{aim_of, aims_at}
use Rattle.ul_merge.proofs.targets.put_extras.Given as goal

abbrev pub invariant-loop-extra : goal.invariant-loop-extra
invariant-loop-extra l = map aim_of l.aims.items ≡ map aim_of l.initial.aims.items ++ aims_at l.requirement (map (with_extra l.name) (take l.extra-index l.extras))
