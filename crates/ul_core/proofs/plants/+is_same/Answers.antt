use Rattle.std.proofs.Common.{arith, refl, ap, sym, ◌∙◌, false, length, ◌≡◌, Bool, IsTrue}
use Rattle.ul_core.proofs.TreeParts.{label_same, parts_same, same_all, same_at, same_next, whole_same}
use Rattle.ul_core.proofs.plants.+is_same.Goals as goal

untrue : (b : Bool) → b ≡ false → IsTrue b → ⊥
untrue b e t = grind arith

pub returns-then-len : goal.returns-then-len
returns-then-len g t c = (
  (λ h. absurd (untrue false refl h)),
  λ e. absurd (c.if-len.true (omega (arith, c.len.ensures, c.len-2.ensures, c.one.inside.parts.ok.0, c.other.inside.parts.ok.0, ap length (parts_same _ _ _ _ _ _ c.one.view_is c.other.view_is e)))),
)

pub returns-then-not-same : goal.returns-then-not-same
returns-then-not-same g t c = (
  (λ h. absurd (untrue false refl h)),
  λ e. absurd (untrue c.same.result c.if-not-same.true (c.same.ensures.1 (label_same _ _ _ _ _ _ c.one.view_is c.other.view_is e))),
)

pub loop-i-preserved : goal.loop-i-preserved
loop-i-preserved g t c =
    same_next c.as_slice-mine.result.now c.as_slice-theirs.result.now c.loop-i.i c.index-mine-i.result c.index-theirs-i.result c.loop-i.invariant c.loop-i-test.true (omega arith) c.index-mine-i.is c.index-theirs-i.is
    (c.is_same.ensures.0 c.if-not-is_same.false)

pub returns-then-not-is_same : goal.returns-then-not-is_same
returns-then-not-is_same g t c = (
  (λ h. absurd (untrue false refl h)),
  λ e. absurd (untrue c.is_same.result c.if-not-is_same.true (c.is_same.ensures.1 (same_at c.as_slice-mine.result.now c.as_slice-theirs.result.now c.loop-i.i c.index-mine-i.result c.index-theirs-i.result
      (c.as_slice-mine.ensures.value ∙ parts_same _ _ _ _ _ _ c.one.view_is c.other.view_is e ∙ sym c.as_slice-theirs.ensures.value) c.loop-i-test.true c.index-mine-i.is c.index-theirs-i.is))),
)

pub returns : goal.returns
returns g t c =
    let lists = same_all c.as_slice-mine.result.now c.as_slice-theirs.result.now c.loop-i.i c.loop-i.invariant (omega arith) (omega arith) in
    ((λ _. whole_same _ _ _ _ _ _ c.one.view_is c.other.view_is (c.same.ensures.0 c.if-not-same.false) (sym c.as_slice-mine.ensures.value ∙ lists ∙ c.as_slice-theirs.ensures.value)), λ _. refl)
