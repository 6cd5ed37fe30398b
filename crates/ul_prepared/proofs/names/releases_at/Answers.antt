use Rattle.std.proofs.lemmas.List.{get_or_default, take_all}
use Rattle.std.proofs.Common.{Some, get_or, ℕ, ap, map, ◌∙◌}
use Rattle.std.specs.Prelude.{slice_get}
use Rattle.ul_prepared.proofs.Loops.{images_more}
use Rattle.ul_prepared.proofs.names.releases_at.Goals as goal

pub loop-place-preserved : goal.loop-place-preserved
loop-place-preserved c = let x : ℕ = get_or c.args.places.now c.loop-place.place-index 0 in
    images_more (λ r. Some r.now) (slice_get c.args.releases.now) c.loop-place.found.items c.push.new.self.items c.args.places.now c.loop-place.place-index c.release_at-release.result x
    c.in_ok-push.ensures.items c.loop-place.invariant c.release_at-release.ensures c.loop-place-test.true (get_or_default c.args.places.now c.loop-place.place-index 0 x c.loop-place-test.true)

pub returns : goal.returns
returns c = c.loop-place.invariant ∙ ap (map (slice_get c.args.releases.now)) (take_all c.loop-place.place-index c.args.places.now c.loop-place-test.false)
