use Rattle.std.specs.declared.alloc.Global.{Global}
use Rattle.ul_project.specs.Answers.{list_view}
use Rattle.ul_groups.specs.Expanded.{group_named}
use Rattle.ul_groups.specs.GroupMaps.{groups_in}
use Rattle.ul_groups.proofs.GroupLists.{same_lists}
use Rattle.ul_groups.proofs.GroupMaps.{same_groups}
use Rattle.ul_groups.proofs.Opened.{named_in}
use Rattle.ul_groups.proofs.extras.all_group_lists.Goals as goal

pub returns : goal.returns
returns c =
    same_lists (list_view {Z = Global}) c.group_lists-lists.result (groups_in c.in_ok-map.map.entries) (group_named c.args.groups.now) c.args.groups.now
    (same_groups c.in_ok-map.map.entries c.args.groups.now c.in_ok-map.ensures) c.group_lists-lists.ensures

pub group_lists-lists-requires : goal.group_lists-lists-requires
group_lists-lists-requires c = named_in c.in_ok-map.map.entries c.args.groups.now c.in_ok-map.ensures
