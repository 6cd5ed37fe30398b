use Rattle.std.proofs.Common.{◌≡◌}
use Rattle.ul_groups.specs.GroupMaps.{groups_in, list_fields}
use Rattle.ul_groups.specs.Opened.{left_of, opened}
use Rattle.ul_groups.specs.Turns.{turns_left}
use Rattle.ul_groups.proofs.expansion.add_all.Given as goal

abbrev pub invariant-loop-innermost : goal.invariant-loop-innermost
invariant-loop-innermost l =
    left_of (groups_in l.groups.entries) (opened l.fn.opens.items) (list_fields l.fn.list.items l.fn.begun.keys l.fn.done.keys)
    ≡ left_of (groups_in l.groups.entries) (opened l.opens.items) (list_fields l.list.items l.begun.keys l.done.keys)

abbrev pub decreases-loop-innermost : goal.decreases-loop-innermost
decreases-loop-innermost l = turns_left l.groups.entries (opened l.opens.items) l.begun.keys
