use Rattle.std.proofs.Common.{List, ℕ, map, ap, sym, subst, ◌∙◌}
use Rattle.ul_version.specs.Fields.{Fields}
use Rattle.ul_requirement.specs.Fields.{WishFields}
use Rattle.ul_prepared.proofs.KeptPlaces.{IsWalk, before_within, begins, pushed, walk_falls, walk_next}
use Rattle.ul_prepared.proofs.wish_index.WishIndex.kept.Goals as goal

pub loop-at-init : goal.loop-at-init
loop-at-init c = subst (λ z. IsWalk c.as_slice-kept.result.now c.args.name.now (map (λ k. k.now) z) c.copied-at.result) (sym c.new-found.ensures.items)
    (begins c.as_slice-kept.result.now c.self.inside.wish.now.kept c.args.name.now c.self.inside.last c.self.inside.before.items c.copied-at.result
    (c.as_slice-kept.ensures.value ∙ ap (λ (w : WishFields). w.kept) c.wish.view_is) c.self.invariant (c.copied-at.ensures ∙ c.get.ensures.value))

pub bounds-before-place : goal.bounds-before-place
bounds-before-place c = before_within c.as_slice-kept.result.now c.self.inside.wish.now.kept c.args.name.now c.self.inside.last c.self.inside.before.items c.as_slice-before.result.now (map (λ k. k.now) c.loop-at.found.items) c.in-Some.place c.loop-at.at
    (c.as_slice-kept.ensures.value ∙ ap (λ (w : WishFields). w.kept) c.wish.view_is) c.self.invariant c.as_slice-before.ensures.value c.in-Some.is c.loop-at.invariant

pub loop-at-preserved : goal.loop-at-preserved
loop-at-preserved c = walk_next c.as_slice-kept.result.now c.self.inside.wish.now.kept c.args.name.now c.self.inside.last c.self.inside.before.items c.as_slice-before.result.now
    (map (λ k. k.now) c.loop-at.found.items) (map (λ k. k.now) c.push.new.self.items) c.in-Some.place c.index-kept-place.result c.loop-at.at
    (c.as_slice-kept.ensures.value ∙ ap (λ (w : WishFields). w.kept) c.wish.view_is) c.self.invariant c.as_slice-before.ensures.value c.in-Some.is c.loop-at.invariant c.index-kept-place.is
    (pushed (λ k. k.now) c.loop-at.found.items c.push.new.self.items _ c.index-kept-place.result.1 c.in_ok-push.ensures.items (ap (λ (k : List ℕ × Fields). k.1) (sym c.index-kept-place.is)))

pub loop-at-smaller : goal.loop-at-smaller
loop-at-smaller c = walk_falls c.as_slice-kept.result.now c.self.inside.wish.now.kept c.args.name.now c.self.inside.last c.self.inside.before.items c.as_slice-before.result.now (map (λ k. k.now) c.loop-at.found.items) c.in-Some.place c.loop-at.at
    (c.as_slice-kept.ensures.value ∙ ap (λ (w : WishFields). w.kept) c.wish.view_is) c.self.invariant c.as_slice-before.ensures.value c.in-Some.is c.loop-at.invariant
