use Rattle.std.proofs.Common.{◌≡◌, ◌++◌, drop}
use Rattle.std.specs.Prelude.{zip}
use Rattle.std.specs.Vec.Iter.{into_iter_items}
use Rattle.ul_groups.specs.Expanded.{lists_by}
use Rattle.ul_groups.proofs.extras.extra_lists.Given as goal

abbrev pub invariant-loop-name : goal.invariant-loop-name
invariant-loop-name l =
    l.lists.items ++ zip (into_iter_items l.name-iterator) (lists_by (drop l.number l.sizes) (into_iter_items l.rest))
    ≡ zip l.fn.extras.items (lists_by l.sizes (into_iter_items l.fn.rest))
