use Rattle.std.proofs.Common.{◌≡◌, take}
use Rattle.ul_groups.proofs.copies.copy_requirements.Given as goal

abbrev pub invariant-loop-requirement : goal.invariant-loop-requirement
invariant-loop-requirement l = l.list.items ≡ take l.requirement-index l.requirements
