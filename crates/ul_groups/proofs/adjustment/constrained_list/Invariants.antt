use Rattle.std.proofs.Common.{◌≡◌, ◌++◌}
use Rattle.std.specs.Vec.Iter.{into_iter_items}
use Rattle.ul_groups.specs.Adjusted.{constrained_list}
use Rattle.ul_groups.specs.NameLists.{at_name}
use Rattle.ul_groups.proofs.adjustment.constrained_list.Given as goal

abbrev pub invariant-loop-requirement : goal.invariant-loop-requirement
invariant-loop-requirement l = l.list.items ++ constrained_list (at_name l.constraints.entries) (into_iter_items l.requirement-iterator) ≡ constrained_list (at_name l.constraints.entries) l.fn.requirements.items
