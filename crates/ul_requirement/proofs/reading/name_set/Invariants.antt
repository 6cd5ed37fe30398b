use Rattle.std.proofs.Common.{◌≡◌, fold}
use Rattle.std.specs.Vec.Iter.{into_iter_items}
use Rattle.std.specs.BTreeSet.{insert_key}
use Rattle.ul_base.specs.Names.{name_cmp}
use Rattle.ul_requirement.specs.Reading.{name_set}
use Rattle.ul_requirement.proofs.reading.name_set.Given as goal

abbrev pub invariant-loop-name : goal.invariant-loop-name
invariant-loop-name l =
    fold (insert_key name_cmp) l.set.keys (into_iter_items l.name-iterator) ≡ name_set l.fn.names.items
