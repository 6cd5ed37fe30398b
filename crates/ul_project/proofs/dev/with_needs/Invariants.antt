use Rattle.std.proofs.Common.{◌≡◌, ◌++◌, map}
use Rattle.std.specs.Vec.Iter.{into_iter_items}
use Rattle.ul_project.specs.declared.group.GroupEntry.TheVariants.{Needs}
use Rattle.ul_project.proofs.dev.with_needs.Given as goal

abbrev pub invariant-loop-requirement : goal.invariant-loop-requirement
invariant-loop-requirement l =
    l.entries.items ++ map Needs (into_iter_items l.requirement-iterator) ≡ l.fn.entries.items ++ map Needs l.fn.requirements.items
