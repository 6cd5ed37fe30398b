use Rattle.std.proofs.Common.{◌≡◌, drop}
use Rattle.toml.specs.View.{items_view}
use Rattle.ul_project.specs.Answers.{place_of}
use Rattle.ul_project.specs.Requirements.{bound_at}
use Rattle.ul_project.specs.Results.{each_from}
use Rattle.ul_project.specs.Toml.{items_list}
use Rattle.ul_project.proofs.EachRead.{behind}
use Rattle.ul_project.proofs.requirements.bounds.Given as goal

abbrev pub invariant-loop-item : goal.invariant-loop-item
invariant-loop-item l =
    (l.number ≡ l.item-index)
    × (each_from (bound_at l.profile (place_of l.place)) 0 (items_list (items_view l.items)) ≡ behind l.list.items (each_from (bound_at l.profile (place_of l.place)) l.number (items_list (items_view (drop l.item-index l.items)))))
