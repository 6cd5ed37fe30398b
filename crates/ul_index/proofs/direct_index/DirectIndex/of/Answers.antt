use Rattle.std.proofs.Common.{◌≡◌, ◌+◌, ◌-◌, ◌∙◌, arith, ap, bytes_eq, length, refl}
use Rattle.std.proofs.lemmas.List.{length-set}
use Rattle.std.specs.HashMap.{get}
use Rattle.ul_index.specs.DirectPlaces.{place_or}
use Rattle.ul_index.proofs.DirectPlaces.{first_more, next_more}
use Rattle.ul_index.proofs.direct_index.DirectIndex.of.Goals as goal

pub loop-place-preserved : goal.loop-place-preserved
loop-place-preserved c =
    let qs = c.args.requirements.now in
    let m = c.loop-place.place in
    let q = c.index-requirements-place.result in
    let inv = c.loop-place.invariant in
    let found = get bytes_eq c.loop-place.first q.name in
    let up : m ≡ (m - 1) + 1 = omega arith in
    let named = c.name_of-name.ensures in (
      λ n. first_more qs n c.in_ok-copy.field-0 m (m - 1) q _ _ up (omega arith) c.index-requirements-place.is (c.in_ok-copy.ensures ∙ named) (c.in_ok-insert.ensures.updates.0 n) (inv.0 n),
      next_more qs c.loop-place.next.items _ m (m - 1) c.place_or.result q found up (omega arith) inv.2 c.index-requirements-place.is refl
          (c.place_or.ensures ∙ ap (place_or (length qs)) (c.get.ensures.value ∙ ap (get bytes_eq c.loop-place.first) named)) (inv.0 q.name) inv.1,
      length-set c.loop-place.next.items (m - 1) c.place_or.result ∙ inv.2,
    )
