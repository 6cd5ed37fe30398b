use Rattle.std.proofs.Common.{◌≡◌}
use Rattle.toml.specs.View.{members_view}
use Rattle.ul_project.specs.Lists.{are_names, are_new, names_of}
use Rattle.ul_project.proofs.lists.are_names.Given as goal

abbrev pub invariant-loop-key : goal.invariant-loop-key
invariant-loop-key g l =
    are_names (names_of l.extras.entries) (members_view l.table.entries)
    ≡ are_new (names_of l.extras.entries) l.earlier.keys (members_view l.key-iterator)
