use Rattle.std.proofs.Common.{◌≡◌, drop}
use Rattle.ul_groups.specs.Expanded.{group_lists}
use Rattle.ul_groups.specs.GroupMaps.{groups_in}
use Rattle.ul_groups.proofs.GroupLists.{behind}
use Rattle.ul_groups.proofs.extras.group_lists.Given as goal

abbrev pub invariant-loop-group : goal.invariant-loop-group
invariant-loop-group l =
    group_lists (groups_in l.map.entries) l.groups ≡ behind l.lists.items (group_lists (groups_in l.map.entries) (drop l.group-index l.groups))
