use Rattle.std.proofs.Common.{◌≡◌, take}
use Rattle.ul_groups.specs.Adjusted.{overridden_list}
use Rattle.ul_groups.specs.NameLists.{at_name}
use Rattle.ul_groups.proofs.adjustment.overridden_list.Given as goal

abbrev pub invariant-loop-requirement : goal.invariant-loop-requirement
invariant-loop-requirement l = l.list.items ≡ overridden_list (at_name l.overrides.entries) (take l.requirement-index l.requirements)
