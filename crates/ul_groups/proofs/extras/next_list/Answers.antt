use Rattle.std.proofs.Common.{◌≡◌, ◌∙◌, ap, arith, drop, take}
use Rattle.std.specs.Vec.Iter.{into_iter_items}
use Rattle.ul_groups.proofs.TakenLists.{dropped_more, next_taken}
use Rattle.ul_groups.proofs.extras.next_list.Goals as goal

pub loop-turn-preserved : goal.loop-turn-preserved
loop-turn-preserved c =
    let xs = into_iter_items c.args.rest.now in record {
      list = next_taken xs c.loop-turn._turn (into_iter_items c.loop-turn.rest) (into_iter_items c.next.new.self) c.loop-turn.list.items
          c.in_ok-list.list.items c.in-Some.requirement c.loop-turn.invariant.list c.loop-turn.invariant.rest c.in-Some.ensures.items c.in_ok-list.ensures;
      rest = dropped_more xs c.loop-turn._turn (into_iter_items c.loop-turn.rest) c.in-Some.requirement (into_iter_items c.next.new.self)
          c.loop-turn.invariant.rest c.in-Some.ensures.items;
    }

pub returns : goal.returns
returns c =
    let xs = into_iter_items c.args.rest.now in
    let all : c.loop-turn._turn ≡ c.args.count = omega (arith, c.loop-turn-test.false, c.loop-turn.auto._turn-end) in record {
      list = c.loop-turn.invariant.list ∙ ap (λ n. take n xs) all;
      rest = c.loop-turn.invariant.rest ∙ ap (λ n. drop n xs) all;
    }
