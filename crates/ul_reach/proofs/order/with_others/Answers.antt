use Rattle.std.proofs.Common.{◌<◌, ◌∙◌, ℕ, false, refl, sym, subst, arith}
use Rattle.std.proofs.lemmas.Option.{get_or_from_slice_get, slice_get_read}
use Rattle.ul_reach.specs.Rounds.{AreListed, ListsAll}
use Rattle.ul_reach.proofs.Listing.{all_more, each_more}
use Rattle.ul_reach.proofs.order.with_others.Goals as goal

pub loop-place-init : goal.loop-place-init
loop-place-init c = record {
  each = subst (AreListed c.in_ok-flags.flags.items) c.as_slice.ensures.value c.in_ok-flags.ensures.each;
  before = λ k lt. absurd (omega (arith, lt));
}

pub loop-place-preserved : goal.loop-place-preserved
loop-place-preserved c =
    let flags = c.in_ok-flags.flags.items in
    let place = c.loop-place.place in
    let within : place < c.args.count = omega (arith, c.loop-place-test.true, c.loop-place.auto.place-end) in
    let read = get_or_from_slice_get flags place _ false (slice_get_read _ _ _ _ refl (subst (λ n. place < n) (sym c.in_ok-flags.ensures.long) within) c.index.ensures) in
    record {
      each = each_more flags _ c.loop-place.all.items place _ c.in_ok-put_unless.ensures c.loop-place.invariant.each;
      before = all_more flags _ c.loop-place.all.items place _ c.in_ok-put_unless.ensures read c.loop-place.invariant.each c.loop-place.invariant.before;
    }

pub returns : goal.returns
returns c = subst (λ (n : ℕ). ListsAll n c.loop-place.all.items) (omega (arith, c.loop-place-test.false, c.loop-place.auto.place-end)) c.loop-place.invariant.before
