use Rattle.std.proofs.Common.{◌≡◌, take, drop}
use Rattle.std.specs.Vec.Iter.{into_iter_items}
use Rattle.ul_groups.proofs.extras.next_list.Given as goal

abbrev pub invariant-loop-turn : goal.invariant-loop-turn
invariant-loop-turn l = record {
  list : l.list.items ≡ take l._turn (into_iter_items l.fn.rest);
  rest : into_iter_items l.rest ≡ drop l._turn (into_iter_items l.fn.rest);
}
