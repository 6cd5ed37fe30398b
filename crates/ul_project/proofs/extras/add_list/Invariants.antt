use Rattle.std.proofs.Common.{◌≡◌, ◌++◌, map}
use Rattle.std.specs.Vec.Iter.{into_iter_items}
use Rattle.ul_project.specs.Extras.{of_extra}
use Rattle.ul_project.proofs.extras.add_list.Given as goal

abbrev pub invariant-loop-requirement : goal.invariant-loop-requirement
invariant-loop-requirement l =
    l.requirements.items ++ map (of_extra l.name) (into_iter_items l.requirement-iterator)
    ≡ l.fn.requirements.items ++ map (of_extra l.name) l.fn.list.items
