use Rattle.std.proofs.Common.{◌≡◌, true, ap, sym, ◌∙◌, subst}
use Rattle.std.specs.Prelude.{◌||◌}
use Rattle.ul_base.specs.Names.{is_name}
use Rattle.ul_comparison.specs.Truth.{is_empty}
use Rattle.ul_nodes.specs.Plain.{Plain, node}
use Rattle.ul_tree.specs.Leaves.{point_of}
use Rattle.ul_nodes.specs.Levels.{extra_level}
use Rattle.ul_nodes.specs.Reduced.{IsReduced}
use Rattle.ul_tree.specs.Values.{tree_holds}
use Rattle.ul_tree.specs.Views.{tree_view}
use Rattle.ul_tree.proofs.Leaves.{extra_holds, extra_key, extra_reduced}
use Rattle.ul_tree.proofs.Shapes.{view_extra, view_truth}
use Rattle.ul_tree.proofs.leaf.extra_tree.Goals as goal

pub returns-clause-reduced : goal.returns-clause-reduced
returns-clause-reduced c =
    let literal = c.args.literal.now in
    let points = c.in_ok-points.points in
    let other = c.in_ok-points.other in
    let may : (is_empty literal || is_name literal) ≡ true = sym c.in_ok-may_be_extra.ensures ∙ c.if-not-branch.false in
    subst (λ (t : Plain). IsReduced t)
    (sym (view_extra points other
    ∙ ap (λ z. node extra_level (tree_view other.value) z) c.in_ok-points.ensures.point
    ∙ ap (λ z. node extra_level z (point_of literal c.args.equal)) (ap tree_view c.in_ok-points.ensures.other ∙ view_truth _)))
    (extra_reduced literal c.args.equal (extra_key literal c.requires may))

pub returns-clause-truth : goal.returns-clause-truth
returns-clause-truth c w x =
    let literal = c.args.literal.now in
    let points = c.in_ok-points.points in
    let other = c.in_ok-points.other in
    let may : (is_empty literal || is_name literal) ≡ true = sym c.in_ok-may_be_extra.ensures ∙ c.if-not-branch.false in
    ap (λ t. tree_holds t w x) (view_extra points other
    ∙ ap (λ z. node extra_level (tree_view other.value) z) c.in_ok-points.ensures.point
    ∙ ap (λ z. node extra_level z (point_of literal c.args.equal)) (ap tree_view c.in_ok-points.ensures.other ∙ view_truth _))
    ∙ extra_holds literal c.args.equal w x may
