use Rattle.std.proofs.lemmas.Bool.{true≢false}
use Rattle.std.proofs.Common.{◌∙◌, sym, refl}
use Rattle.ul_ranges.proofs.ForCallers.{within}
use Rattle.ul_derivation.proofs.Needs.{one_at, need_here, need_past}
use Rattle.ul_derivation.proofs.checks.has_need.Goals as goal
use Rattle.ul_derivation.proofs.checks.has_need.Goals.{else-need-target-via-then-need-target+else-is_within, else-need-target-via-else-need-target}

pub is_within-requires : goal.is_within-requires
is_within-requires c = c.requires c.need-item.result (one_at _ c.loop-need.need-index c.need-item.result c.loop-need-test.true c.need-item.is) c.if-need-target.true

pub returns-then-is_within : goal.returns-then-is_within
returns-then-is_within c = ((λ e. need_here _ c.loop-need.need-index c.need-item.result _ _ c.loop-need-test.true c.need-item.is c.if-need-target.true ((within _ _).0 (sym c.is_within.ensures ∙ c.if-is_within.true))), λ h. refl)

pub loop-need-preserved : goal.loop-need-preserved
loop-need-preserved c = λ h. need_past _ c.loop-need.need-index c.need-item.result _ _ c.loop-need-test.true c.need-item.is
    (elim c.else-need-target.branch [
      | else-need-target-via-then-need-target+else-is_within w ↦ (λ e f. true≢false (sym (w.is_within.ensures ∙ (within _ _).1 f) ∙ w.if-is_within.false))
      | else-need-target-via-else-need-target w ↦ (λ e f. w.if-need-target.false e)
    ])
    (c.loop-need.invariant h)
