use Rattle.std.proofs.Common.{◌≡◌, ◌∷◌, ◌∙◌, ap}
use Rattle.ul_marker_text.specs.declared.steps.Step.TheVariants.{Interval, Point, Others}
use Rattle.ul_marker_text.proofs.PartFacts.{points_left, listed_more, listed_interval, listed_others, listed_end, nothing_left}
use Rattle.ul_marker_text.proofs.nodes.listed.Goals as goal

pub loop-step-preserved : goal.loop-step-preserved
loop-step-preserved c =
    let e : c.loop-step.parts.items ≡ (Point c.in-Point.comparison, c.in-Some.tree) ∷ c.pop_front.new.self.items = cc c.in-Some.ensures.items in
    ap (λ z. points_left z c.pop_front.new.self.items) c.in_ok-made-in-Point.ensures
    ∙ listed_more c.loop-step.made.items c.in-Point.comparison c.in-Some.tree c.loop-step.parts.items _ _ e c.loop-step.invariant

pub returns-in-Interval : goal.returns-in-Interval
returns-in-Interval c =
    let e : c.loop-step.parts.items ≡ (Interval c.in-Interval.field-0 c.in-Interval.field-1, c.in-Some.tree) ∷ c.pop_front.new.self.items = cc c.in-Some.ensures.items in
    listed_interval c.loop-step.made.items c.in-Interval.field-0 c.in-Interval.field-1 c.in-Some.tree c.loop-step.parts.items _ _ e c.loop-step.invariant

pub returns-in-Others : goal.returns-in-Others
returns-in-Others c =
    let e : c.loop-step.parts.items ≡ (Others c.in-Others.field-0 c.in-Others.field-1, c.in-Some.tree) ∷ c.pop_front.new.self.items = cc c.in-Some.ensures.items in
    listed_others c.loop-step.made.items c.in-Others.field-0 c.in-Others.field-1 c.in-Some.tree c.loop-step.parts.items _ _ e c.loop-step.invariant

pub returns : goal.returns
returns c =
    listed_end c.loop-step.made.items c.loop-step.parts.items _ (nothing_left c.loop-step.parts.items c.pop_front.new.self.items c.in_default.ensures.items c.in_default.ensures.rest) c.loop-step.invariant
