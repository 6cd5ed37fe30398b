use Rattle.std.proofs.Common.{◌∙◌, arith, drop, refl, sym}
use Rattle.std.proofs.lemmas.List.{nil_from_length}
use Rattle.std.specs.Prelude.{zip}
use Rattle.std.specs.Vec.Iter.{into_iter_items}
use Rattle.ul_groups.specs.Expanded.{lists_by}
use Rattle.ul_groups.proofs.ExtraLists.{extra_next}
use Rattle.ul_groups.proofs.LeftLists.{left_none}
use Rattle.ul_groups.proofs.extras.extra_lists.Goals as goal

pub loop-name-preserved : goal.loop-name-preserved
loop-name-preserved c =
    sym
    (extra_next c.loop-name.lists.items c.push.new.self.items (into_iter_items c.loop-name.name-iterator) c.in-Some.name (into_iter_items c.next.new.self)
    c.args.sizes.now c.loop-name.number c.in-Some-get.size.now (into_iter_items c.loop-name.rest) c.in_ok-list.list.items (into_iter_items c.next_list.new.rest)
    c.in-Some.ensures.steps.0 c.in-Some-get.ensures.lookup.3.0 c.in-Some-get.ensures.lookup.1 c.in_ok-list.ensures.list c.in_ok-list.ensures.rest c.in_ok-push.ensures.items)
    ∙ c.loop-name.invariant

pub returns : goal.returns
returns c =
    left_none (λ names. zip names (lists_by (drop c.loop-name.number c.args.sizes.now) (into_iter_items c.loop-name.rest))) c.loop-name.lists.items _
    (into_iter_items c.loop-name.name-iterator) refl
    (nil_from_length (into_iter_items c.loop-name.name-iterator) (omega (arith, c.in-None.ensures.steps.0, c.loop-name.name-iterator.rest.ok)))
    c.loop-name.invariant
