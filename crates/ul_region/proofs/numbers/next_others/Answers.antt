use Rattle.std.proofs.Common.{◌<◌, ◌≡◌, ◌+◌, ◌-◌, ℕ, get_or, length, refl, arith}
use Rattle.std.proofs.lemmas.List.{get_or_default}
use Rattle.ul_region.proofs.NameNumbers.{next_more, next_start, next_whole}
use Rattle.ul_region.proofs.numbers.next_others.Goals as goal

pub loop-place-init : goal.loop-place-init
loop-place-init c =
    let numbers = c.args.numbers.now in
    next_start numbers c.args.truths.now c.in_ok-seen.seen.items c.in_ok-next.next.items (length numbers) (length numbers) refl refl (c.in_ok-seen.ensures.items_if_clones_equal (λ y e. e)) (c.in_ok-next.ensures.items_if_clones_equal (λ y e. e))

pub loop-place-preserved : goal.loop-place-preserved
loop-place-preserved c =
    let numbers = c.args.numbers.now in
    let seen = c.loop-place.seen.items in
    let i : ℕ = c.loop-place.place - 1 in
    let number : ℕ = get_or numbers i 0 in
    let before : c.loop-place.place ≡ i + 1 = omega (arith, c.loop-place-test.true) in
    let l : i < length numbers = omega (arith, before, c.loop-place.auto.place) in
    next_more numbers c.args.truths.now seen c.loop-place.next.items i c.loop-place.place number c.next_other.result c.requires.below before l (get_or_default numbers i 0 number l) c.loop-place.invariant c.next_other.ensures

pub returns-clause-next : goal.returns-clause-next
returns-clause-next c = next_whole c.args.numbers.now c.args.truths.now c.loop-place.seen.items c.loop-place.next.items c.loop-place.place c.loop-place.invariant (omega (arith, c.loop-place-test.false))

pub returns-clause-count : goal.returns-clause-count
returns-clause-count c = c.loop-place.invariant.size
