use Rattle.std.proofs.Common.{◌≡◌}
use Rattle.std.specs.Prelude.{fold}
use Rattle.std.specs.Vec.Iter.{into_iter_items}
use Rattle.ul_project.specs.Lists.{put_list}
use Rattle.ul_groups.proofs.extras.put_lists.Given as goal

abbrev pub invariant-loop-name : goal.invariant-loop-name
invariant-loop-name l = fold put_list l.map.entries (into_iter_items l.name-iterator) ≡ fold put_list l.fn.map.entries l.fn.lists.items
