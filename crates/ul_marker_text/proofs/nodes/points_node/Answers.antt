use Rattle.std.proofs.Common.{ap, sym, ◌∙◌, subst, false, ◌∷◌, map}
use Rattle.std.proofs.lemmas.Result.{IfOk-weaker}
use Rattle.ul_tree.specs.Fans.{other_part}
use Rattle.ul_nodes.specs.Keys.{level_view}
use Rattle.ul_nodes.specs.Plain.{Branches, Plain, node, truth}
use Rattle.ul_nodes.specs.Reduced.{Fits}
use Rattle.ul_tree.proofs.ForCallers.{view_truth}
use Rattle.ul_marker_text.specs.Nodes.{parts_view, key_branches, BranchesFit}
use Rattle.ul_marker_text.specs.StepViews.{above_view, comparison_key}
use Rattle.ul_marker_text.proofs.NodeFacts.{keeps_given, listed_fit, filled_fit, other_fits}
use Rattle.ul_marker_text.proofs.PartFacts.{other_of, no_other, listed_all, filled_all}
use Rattle.ul_marker_text.proofs.nodes.points_node.Goals as goal

pub points_closed-requires-clause-parts : goal.points_closed-requires-clause-parts
points_closed-requires-clause-parts c =
    subst (λ (z : Branches). BranchesFit (level_view c.args.level) z) (sym c.in_ok-points-in-None.ensures) (listed_fit (parts_view c.args.parts.items) (level_view c.args.level) c.requires.parts)

pub points_closed-requires-in-Some-clause-parts : goal.points_closed-requires-in-Some-clause-parts
points_closed-requires-in-Some-clause-parts c =
    subst (λ (z : Branches). BranchesFit (level_view c.args.level) z) (sym c.in_ok-points-in-Some.ensures.branches) (filled_fit (comparison_key c.in-Some.first ∷ map comparison_key c.in-Some.row.now) (parts_view c.args.parts.items) (level_view c.args.level) c.requires.parts)

pub points_closed-requires-in-Some-clause-other : goal.points_closed-requires-in-Some-clause-other
points_closed-requires-in-Some-clause-other c =
    let ps = parts_view c.args.parts.items in
    let o = other_of (other_part ps) _ c.in-Some.ensures in
    subst (λ (z : Plain). Fits z (level_view c.args.level)) (sym (c.take_other.ensures _ o.part (c.in_ok-points-in-Some.ensures.other ∙ o.found)))
    (other_fits ps (level_view c.args.level) _ o.part c.requires.parts o.found)

pub returns-in_ok-points-in-None : goal.returns-in_ok-points-in-None
returns-in_ok-points-in-None c =
    let l = level_view c.args.level in
    let ps = parts_view c.args.parts.items in
    let same = ap (λ z. node l z (key_branches c.in_ok-points-in-None.points.items)) (view_truth _) ∙ ap (node l (truth false)) c.in_ok-points-in-None.ensures ∙ sym (listed_all ps (no_other (other_part ps) c.in-None.ensures) l) in
    IfOk-weaker c.points_closed.result _ _ (λ tree kept. keeps_given (above_view c.args.above) _ _ _ same kept) c.points_closed.ensures

pub returns-in_ok-points-in-Some : goal.returns-in_ok-points-in-Some
returns-in_ok-points-in-Some c =
    let l = level_view c.args.level in
    let ps = parts_view c.args.parts.items in
    let o = other_of (other_part ps) _ c.in-Some.ensures in
    let same = ap (λ z. node l z (key_branches c.in_ok-points-in-Some.points.items)) (c.take_other.ensures _ o.part (c.in_ok-points-in-Some.ensures.other ∙ o.found))
    ∙ ap (node l o.part) c.in_ok-points-in-Some.ensures.branches ∙ sym (filled_all ps _ o.part o.found l) in
    IfOk-weaker c.points_closed-in-Some.result _ _ (λ tree kept. keeps_given (above_view c.args.above) _ _ _ same kept) c.points_closed-in-Some.ensures
