use Rattle.std.proofs.Common.{take}
use Rattle.ul_groups.specs.GroupMaps.{HasGroups}
use Rattle.ul_groups.proofs.expansion.groups_by_name.Given as goal

abbrev pub invariant-loop-group : goal.invariant-loop-group
invariant-loop-group l = HasGroups l.map.entries (take l.group-index l.groups)
