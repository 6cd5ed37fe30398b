use Rattle.std.specs.HashMap.{get}
use Rattle.std.proofs.Common.{List, ℕ, ap, sym, bytes_eq, ◌∙◌}
use Rattle.ul_version.specs.Fields.{Fields}
use Rattle.ul_prepared.proofs.KeptPlaces.{before_more, last_more}
use Rattle.ul_prepared.proofs.wish_index.WishIndex.of.Goals as goal

pub loop-place-preserved : goal.loop-place-preserved
loop-place-preserved c = record {
  last = last_more c.as_slice-kept.result.now c.loop-place.place c.index-kept-place.result c.in_ok-copy.field-0 c.loop-place.last c.insert.new.self c.loop-place-test.true c.index-kept-place.is (c.in_ok-copy.ensures ∙ ap (λ (k : List ℕ × Fields). k.0) (sym c.index-kept-place.is))
      (λ n. c.in_ok-insert.ensures.updates.0 n) c.loop-place.invariant.last;
  before = before_more c.as_slice-kept.result.now c.loop-place.place c.index-kept-place.result c.loop-place.last c.loop-place.before.items c.push.new.self.items c.copied.result c.loop-place-test.true c.index-kept-place.is
      c.loop-place.invariant.last c.in_ok-push.ensures.items (c.copied.ensures ∙ (c.get.ensures.value ∙ ap (λ (k : List ℕ × Fields). get bytes_eq c.loop-place.last k.0) (sym c.index-kept-place.is))) c.loop-place.invariant.before;
}
