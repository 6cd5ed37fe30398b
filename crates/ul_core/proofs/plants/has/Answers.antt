use Rattle.std.proofs.Common.{◌≡◌, true, arith, refl, ap, ◌∙◌}
use Rattle.std.specs.Prelude.{Some}
use Rattle.std.proofs.lemmas.Option.{slice_get_read}
use Rattle.ul_core.proofs.Looking.{all_more, all_of, not_true}
use Rattle.ul_core.proofs.plants.has.Goals as goal

pub loop-listed-preserved : goal.loop-listed-preserved
loop-listed-preserved g c =
    let at = slice_get_read _ _ _ _ refl c.loop-listed-test.true c.listed-item.is in
    all_more (λ t. t ≡ c.args.plant.now → ⊥) c.args.log.now true c.loop-listed.listed-index _ at (λ e. not_true c.is_same.result c.if-is_same.false (c.is_same.ensures.1 e)) c.loop-listed.invariant

pub returns-then-is_same : goal.returns-then-is_same
returns-then-is_same g c =
    let at = slice_get_read _ _ _ _ refl c.loop-listed-test.true c.listed-item.is in
    (λ _. (c.loop-listed.listed-index, at ∙ ap (λ t. Some t) (c.is_same.ensures.0 c.if-is_same.true)), λ _. refl)

pub returns : goal.returns
returns g c = (
  (λ h. absurd (not_true _ refl h)),
  λ h. absurd (all_of (λ t. t ≡ c.args.plant.now → ⊥) c.args.log.now true c.loop-listed.listed-index (omega arith) c.loop-listed.invariant c.args.plant.now h refl),
)
