use Rattle.std.proofs.Common.{◌+◌, ◌∙◌, List, ℕ, ap, arith, get_or, refl, subst, sym}
use Rattle.ul_requirement.specs.Fields.{RequirementFields}
use Rattle.ul_region.specs.Numbers.{fields_in}
use Rattle.ul_region.proofs.KeptPlaces.{IsWalk, walk_end, walk_on, walk_past}
use Rattle.ul_region.proofs.by_extra.kept_among.Goals as goal
use Rattle.ul_region.proofs.by_extra.kept_among.Goals.{then-place-from+then-place-requirements+in_ok-put_kept, else-place-from, else-place-from-via-then-place-from+else-place-requirements, else-place-from-via-else-place-from}

pub loop-place-preserved : goal.loop-place-preserved
loop-place-preserved c =
    let qs = c.args.requirements.now in
    let n = c.args.node.now in
    let places = c.args.places.now in
    let found = fields_in c.loop-place.kept.items in
    let from = c.loop-place.from in
    let i = c.loop-place.place-index in
    let place = get_or places i 0 in
    elim c.if-place-from.branch [
      | then-place-from+then-place-requirements+in_ok-put_kept w ↦
          subst (IsWalk qs n places (fields_in c.if-place-from.kept.items) (i + 1)) (sym w.from-is)
          (walk_on qs n places found i from c.loop-place-test.true c.loop-place.invariant c.requires.rising place refl w.if-place-from.true w.if-place-requirements.true
          w.index-requirements-place.result _ w.index-requirements-place.is (ap (λ v. fields_in v.items) w.kept-is ∙ w.in_ok-put_kept.ensures))
      | else-place-from w ↦
          subst (IsWalk qs n places (fields_in c.if-place-from.kept.items) (i + 1)) (sym w.from-is)
          (subst (λ (l : List RequirementFields). IsWalk qs n places l (i + 1) from) (sym (ap (λ v. fields_in v.items) w.kept-is))
          (walk_past qs n places found i from c.loop-place-test.true c.loop-place.invariant place refl
          (λ k low high e. elim w.else-place-from.branch [
            | else-place-from-via-then-place-from+else-place-requirements o ↦ absurd (omega (arith, o.if-place-requirements.false, high, e))
            | else-place-from-via-else-place-from o ↦ absurd (omega (arith, o.if-place-from.false, low, e))
          ])))
    ]

pub returns : goal.returns
returns c = walk_end c.args.requirements.now c.args.node.now c.args.places.now (fields_in c.loop-place.kept.items) c.loop-place.place-index c.loop-place.from (omega (arith, c.loop-place-test.false)) c.loop-place.invariant
