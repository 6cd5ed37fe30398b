use Rattle.std.proofs.Common.{take}
use Rattle.ul_groups.specs.NameLists.{HasEach}
use Rattle.ul_groups.proofs.name_lists.by_name.Given as goal

abbrev pub invariant-loop-requirement : goal.invariant-loop-requirement
invariant-loop-requirement l = HasEach l.lists.entries (take l.requirement-index l.requirements)
