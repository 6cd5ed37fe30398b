use Rattle.std.proofs.Common.{◌≡◌, drop}
use Rattle.std.specs.List.{list_all}
use Rattle.toml.specs.View.{items_view}
use Rattle.ul_project.specs.Head.{is_text}
use Rattle.ul_project.specs.Toml.{items_list}
use Rattle.ul_project.proofs.head.are_texts.Given as goal

abbrev pub invariant-loop-item : goal.invariant-loop-item
invariant-loop-item l = list_all is_text (items_list (items_view l.items)) ≡ list_all is_text (items_list (items_view (drop l.item-index l.items)))
