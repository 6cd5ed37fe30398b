use Rattle.std.proofs.Common.{◌≡◌, ◌+◌, ℕ, length, ap, sym, subst, refl, ◌∙◌, arith}
use Rattle.std.proofs.lemmas.List.{length_push}
use Rattle.std.proofs.lemmas.Option.{slice_get_read}
use Rattle.ul_base.proofs.ForCallers.{made_holds}
use Rattle.ul_algebra.specs.Answers.{IsDiagram}
use Rattle.ul_interner.proofs.ForCallers.{knows_then}
use Rattle.ul_region.specs.Truths.{DiagramMark}
use Rattle.ul_region.proofs.TruthFacts.{still, truth_still, known_more, meets_more}
use Rattle.ul_region.proofs.in_region.InRegion.of.Goals as goal

pub and-holds-requires-clause-a : goal.and-holds-requires-clause-a
and-holds-requires-clause-a g c = still _ _ _ c.loop-truth.invariant.knows c.requires.region.diagram

pub and-holds-requires-clause-b : goal.and-holds-requires-clause-b
and-holds-requires-clause-b g c = still _ _ _ c.loop-truth.invariant.knows
    (subst (λ (m : DiagramMark). IsDiagram c.args.algebra.now m) (sym c.truth-item.is) (c.requires.truths c.loop-truth.truth-index c.truth-item.result c.loop-truth-test.true))

pub returns-in_err-within-2-clause-knows : goal.returns-in_err-within-2-clause-knows
returns-in_err-within-2-clause-knows g c = knows_then _ _ _ c.loop-truth.invariant.knows c.and-holds.ensures.knows

pub loop-truth-preserved : goal.loop-truth-preserved
loop-truth-preserved g c =
    let before = c.loop-truth.within.items in
    let after = c.in_ok-within-2.within.items in
    let more = c.in_ok-within-2.ensures in
    let one = more.0 in
    let told = c.and-holds.ensures in
    record {
      knows = knows_then _ _ _ c.loop-truth.invariant.knows told.knows;
      size = ap length more.2 ∙ (length_push before one ∙ ap (λ (n : ℕ). n + 1) c.loop-truth.invariant.size);
      known = known_more c.loop-truth.algebra c.and-holds.new.self before after one told.knows more.2 c.loop-truth.invariant.known (made_holds c.and-holds.result one _ more.1 told.diagram);
      meets = meets_more c.args.region.now c.args.truths.now before after c.loop-truth.truth-index c.truth-item.result one more.2 c.loop-truth.invariant.size
          (slice_get_read c.args.truths.now (length c.args.truths.now) c.loop-truth.truth-index c.truth-item.result refl c.loop-truth-test.true c.truth-item.is) (made_holds c.and-holds.result one _ more.1 told.tree) c.loop-truth.invariant.meets;
    }

pub returns-clause-whole : goal.returns-clause-whole
returns-clause-whole g c = let size : length c.loop-truth.within.items ≡ length c.args.truths.now = omega (arith, c.loop-truth.invariant.size, c.loop-truth-test.false, c.loop-truth.auto.truth-index-end) in record {
  region = truth_still _ _ _ _ c.loop-truth.invariant.knows c.requires.region;
  within = record { size = size; known = c.loop-truth.invariant.known; meets = c.loop-truth.invariant.meets };
}
