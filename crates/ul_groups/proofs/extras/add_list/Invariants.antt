use Rattle.std.proofs.Common.{◌≡◌, ◌++◌}
use Rattle.std.specs.Vec.Iter.{into_iter_items}
use Rattle.ul_groups.proofs.extras.add_list.Given as goal

abbrev pub invariant-loop-requirement : goal.invariant-loop-requirement
invariant-loop-requirement l = l.requirements.items ++ into_iter_items l.requirement-iterator ≡ l.fn.requirements.items ++ l.fn.list.items
