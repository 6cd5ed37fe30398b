use Rattle.std.proofs.Common.{◌≡◌}
use Rattle.std.specs.Prelude.{fold}
use Rattle.std.specs.Vec.Iter.{into_iter_items}
use Rattle.ul_project.specs.Lists.{by_name, put_list}
use Rattle.ul_project.proofs.lists.by_name.Given as goal

abbrev pub invariant-loop-name : goal.invariant-loop-name
invariant-loop-name g l = fold put_list l.ordered.entries (into_iter_items l.name-iterator) ≡ by_name l.fn.lists.items
