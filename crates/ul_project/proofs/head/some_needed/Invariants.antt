use Rattle.std.proofs.Common.{◌≡◌, drop}
use Rattle.std.specs.List.{list_any}
use Rattle.toml.specs.View.{items_view}
use Rattle.ul_project.specs.Head.{names_needed}
use Rattle.ul_project.specs.Toml.{items_list}
use Rattle.ul_project.proofs.head.some_needed.Given as goal

abbrev pub invariant-loop-item : goal.invariant-loop-item
invariant-loop-item l = list_any names_needed (items_list (items_view l.items)) ≡ list_any names_needed (items_list (items_view (drop l.item-index l.items)))
