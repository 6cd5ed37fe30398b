use Rattle.std.proofs.Common.{◌≡◌, drop}
use Rattle.toml.specs.View.{items_view}
use Rattle.ul_project.specs.GroupLists.{group_entry_at}
use Rattle.ul_project.specs.Results.{each_from}
use Rattle.ul_project.specs.Toml.{items_list}
use Rattle.ul_project.proofs.EachRead.{behind}
use Rattle.ul_project.proofs.groups.group_entries.Given as goal

abbrev pub invariant-loop-item : goal.invariant-loop-item
invariant-loop-item l =
    (l.number ≡ l.item-index)
    × (each_from (group_entry_at l.profile l.group) 0 (items_list (items_view l.items)) ≡ behind l.list.items (each_from (group_entry_at l.profile l.group) l.number (items_list (items_view (drop l.item-index l.items)))))
