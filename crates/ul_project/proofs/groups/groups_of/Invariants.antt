use Rattle.std.proofs.Common.{◌≡◌, ◌++◌, map}
use Rattle.ul_project.specs.GroupLists.{group_of}
use Rattle.ul_project.proofs.groups.groups_of.Given as goal

abbrev pub invariant-loop-name : goal.invariant-loop-name
invariant-loop-name l = l.groups.items ++ map group_of l.name-iterator ≡ map group_of l.fn.lists.entries
