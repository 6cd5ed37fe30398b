use Rattle.std.proofs.Common.{◌≡◌, ℕ, length, arith, ◌∙◌, subst, sym}
use Rattle.ul_base.proofs.ForCallers.{made_holds}
use Rattle.ul_requirement.specs.Truth.{applies_at}
use Rattle.ul_region.specs.Truths.{IsTruthAt}
use Rattle.ul_region.specs.Numbers.{fields_in}
use Rattle.ul_region.specs.Rows.{AreTruthsOfFirst}
use Rattle.ul_region.proofs.Lent.{lent_size, lent_there}
use Rattle.ul_region.proofs.RowFacts.{first_truths, grown_then, truths_more, truths_whole}
use Rattle.ul_region.proofs.asking.truth_places.Goals as goal

pub truth_place-place-requires-clause-truths : goal.truth_place-place-requires-clause-truths
truth_place-place-requires-clause-truths g c = c.loop-requirement.invariant.grown.known

pub truth_place-place-requires-clause-few : goal.truth_place-place-requires-clause-few
truth_place-place-requires-clause-few g c = let size = c.loop-requirement.invariant.truths.size in omega (arith, size, c.loop-requirement-test.true)

pub truth_place-place-requires-clause-places : goal.truth_place-place-requires-clause-places
truth_place-place-requires-clause-places g c =
    let qs = fields_in c.args.requirements.now in
    subst (AreTruthsOfFirst c.loop-requirement.algebra c.args.node.now c.loop-requirement.truths.marks.items qs) (sym c.as_slice.ensures.value)
    (first_truths c.loop-requirement.algebra c.args.node.now c.loop-requirement.truths.marks.items qs c.loop-requirement.places.items c.loop-requirement.requirement-index c.loop-requirement.invariant.truths)

pub returns-in_err-places-2-clause-grown : goal.returns-in_err-places-2-clause-grown
returns-in_err-places-2-clause-grown g c = grown_then _ _ _ _ _ _ c.loop-requirement.invariant.grown c.truth_place-place.ensures.grown

pub loop-requirement-preserved : goal.loop-requirement-preserved
loop-requirement-preserved g c =
    let rs = c.args.requirements.now in
    let i = c.loop-requirement.requirement-index in
    let one = c.requirement-item.result in
    let more = c.in_ok-places-2.ensures in
    let told = c.truth_place-place.ensures in
    record {
      grown = grown_then _ _ _ _ _ _ c.loop-requirement.invariant.grown told.grown;
      truths = truths_more c.loop-requirement.algebra c.truth_place-place.new.algebra c.args.node.now c.loop-requirement.truths.marks.items c.truth_place-place.new.truths.marks.items (fields_in rs) c.loop-requirement.places.items c.in_ok-places-2.places.items i more.0 one.now
          c.loop-requirement.invariant.truths told.grown more.2 (lent_there rs i one c.loop-requirement-test.true c.requirement-item.is) (made_holds c.truth_place-place.result more.0 (λ (k : ℕ). IsTruthAt c.truth_place-place.new.algebra c.truth_place-place.new.truths.marks.items k (applies_at one.now c.args.node.now)) more.1 told.truth);
    }

pub returns-clause-truths : goal.returns-clause-truths
returns-clause-truths g c =
    let rs = c.args.requirements.now in
    let all : c.loop-requirement.requirement-index ≡ length rs = omega (arith, c.loop-requirement-test.false, c.loop-requirement.auto.requirement-index-end) in
    truths_whole c.loop-requirement.algebra c.args.node.now c.loop-requirement.truths.marks.items (fields_in rs) c.loop-requirement.places.items c.loop-requirement.requirement-index c.loop-requirement.invariant.truths (all ∙ sym (lent_size rs))
