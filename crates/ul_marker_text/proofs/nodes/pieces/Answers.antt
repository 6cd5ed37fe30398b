use Rattle.std.proofs.Common.{◌≡◌, ◌∷◌, ◌++◌, [], ◌∙◌, ap}
use Rattle.std.proofs.lemmas.Result.{IfOk-weaker}
use Rattle.ul_base.proofs.ForCallers.{made_holds}
use Rattle.ul_marker_text.specs.declared.steps.Step.TheVariants.{Interval, Point, Others}
use Rattle.ul_marker_text.proofs.PartFacts.{piece_more, pieces_point, pieces_others, pieces_closed, nothing_left}
use Rattle.ul_marker_text.proofs.nodes.pieces.Goals as goal

pub loop-step-preserved : goal.loop-step-preserved
loop-step-preserved c =
    let e : c.loop-step.parts.items ≡ (Interval c.in-Interval.start c.in-Interval.end, c.in-Some.tree) ∷ c.pop_front.new.self.items = cc c.in-Some.ensures.items in
    let closed = c.in_ok-tree-in-Interval.closed in
    let told = made_holds c.with_gap.result closed _ c.in_ok-tree-in-Interval.ensures.1 c.with_gap.ensures in
    let made = c.in_ok-made-in-Interval.ensures ∙ ap (λ t. closed.items ++ (c.in-Interval.start, t) ∷ []) c.in_ok-tree-in-Interval.ensures.0 in
    piece_more c.loop-step.made.items _ _ c.loop-step.next c.in-Interval.start c.in-Interval.end c.in-Some.tree c.loop-step.parts.items _ _ e told made c.loop-step.invariant

pub returns-in-Point : goal.returns-in-Point
returns-in-Point c =
    let e : c.loop-step.parts.items ≡ (Point c.in-Point.field-0, c.in-Some.tree) ∷ c.pop_front.new.self.items = cc c.in-Some.ensures.items in
    pieces_point c.loop-step.made.items c.loop-step.next c.in-Point.field-0 c.in-Some.tree c.loop-step.parts.items _ _ e c.loop-step.invariant

pub returns-in-Others : goal.returns-in-Others
returns-in-Others c =
    let e : c.loop-step.parts.items ≡ (Others c.in-Others.field-0 c.in-Others.field-1, c.in-Some.tree) ∷ c.pop_front.new.self.items = cc c.in-Some.ensures.items in
    pieces_others c.loop-step.made.items c.loop-step.next c.in-Others.field-0 c.in-Others.field-1 c.in-Some.tree c.loop-step.parts.items _ _ e c.loop-step.invariant

pub returns : goal.returns
returns c =
    let none = nothing_left c.loop-step.parts.items c.pop_front.new.self.items c.in_default.ensures.items c.in_default.ensures.rest in
    IfOk-weaker c.with_gap-2.result _ _ (λ all told. pieces_closed c.loop-step.made.items _ c.loop-step.next c.loop-step.parts.items _ none told c.loop-step.invariant) c.with_gap-2.ensures
