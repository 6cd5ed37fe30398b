use Rattle.std.proofs.Common.{ap, sym, ◌∙◌, subst}
use Rattle.ul_nodes.specs.Plain.{Plain, node}
use Rattle.ul_tree.specs.Leaves.{point_of}
use Rattle.ul_nodes.specs.Levels.{text_level}
use Rattle.ul_nodes.specs.Reduced.{IsReduced}
use Rattle.ul_tree.specs.Values.{tree_holds}
use Rattle.ul_tree.specs.Views.{tree_view}
use Rattle.ul_tree.proofs.Leaves.{text_holds, text_reduced}
use Rattle.ul_tree.proofs.Shapes.{view_text, view_truth}
use Rattle.ul_tree.proofs.leaf.text_tree.Goals as goal

pub returns-clause-truth : goal.returns-clause-truth
returns-clause-truth c w x =
    let v = c.args.variable in
    let points = c.in_ok-points.points in
    let other = c.in_ok-points.other in
    ap (λ t. tree_holds t w x) (view_text v points other
    ∙ ap (λ z. node (text_level v) (tree_view other.value) z) c.in_ok-points.ensures.point
    ∙ ap (λ z. node (text_level v) z (point_of c.args.literal.now c.args.equal)) (ap tree_view c.in_ok-points.ensures.other ∙ view_truth _))
    ∙ text_holds v c.args.literal.now c.args.equal w x

pub returns-clause-reduced : goal.returns-clause-reduced
returns-clause-reduced c =
    let v = c.args.variable in
    let literal = c.args.literal.now in
    let points = c.in_ok-points.points in
    let other = c.in_ok-points.other in
    subst (λ (t : Plain). IsReduced t)
    (sym (view_text v points other
    ∙ ap (λ z. node (text_level v) (tree_view other.value) z) c.in_ok-points.ensures.point
    ∙ ap (λ z. node (text_level v) z (point_of literal c.args.equal)) (ap tree_view c.in_ok-points.ensures.other ∙ view_truth _)))
    (text_reduced v literal c.args.equal c.requires.variable c.requires.literal)
