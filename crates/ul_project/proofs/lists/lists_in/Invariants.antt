use Rattle.std.proofs.Common.{◌≡◌}
use Rattle.toml.specs.View.{members_view}
use Rattle.ul_project.specs.Lists.{lists_in}
use Rattle.ul_project.specs.Shapes.{at_key, shape}
use Rattle.ul_project.proofs.EachRead.{behind}
use Rattle.ul_project.proofs.lists.lists_in.Given as goal

abbrev pub invariant-loop-key : goal.invariant-loop-key
invariant-loop-key g l =
    lists_in (shape (at_key l.place)) (g.L.NamedList.list_at l.profile) (members_view l.table.entries)
    ≡ behind l.lists.items (lists_in (shape (at_key l.place)) (g.L.NamedList.list_at l.profile) (members_view l.key-iterator))
