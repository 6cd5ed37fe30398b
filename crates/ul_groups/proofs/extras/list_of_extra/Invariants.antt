use Rattle.std.proofs.Common.{◌≡◌, ◌++◌, map}
use Rattle.std.specs.Vec.Iter.{into_iter_items}
use Rattle.ul_project.specs.Extras.{of_extra}
use Rattle.ul_groups.proofs.extras.list_of_extra.Given as goal

abbrev pub invariant-loop-requirement : goal.invariant-loop-requirement
invariant-loop-requirement l =
    l.list.items ++ map (of_extra l.name) (into_iter_items l.requirement-iterator) ≡ map (of_extra l.name) l.fn.requirements.items
