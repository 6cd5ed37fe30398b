use Rattle.std.proofs.Common.{◌≡◌, ◌++◌, ◌∷◌, [], ap, sym, ◌∙◌, string_bytes}
use Rattle.std.proofs.lemmas.Result.{IfOk-weaker}
use Rattle.ul_base.proofs.ForCallers.{made_holds}
use Rattle.ul_nodes.specs.Plain.{done, branch}
use Rattle.ul_tree.specs.Views.{tree_view, points_view}
use Rattle.ul_tree.specs.declared.tree.Tree.{Truth}
use Rattle.ul_tree.proofs.Shapes.{view_truth}
use Rattle.ul_tree.proofs.leaf.branches.Goals as goal

pub returns-clause-point : goal.returns-clause-point
returns-clause-point c =
    let literal = c.args.literal.now in
    IfOk-weaker c.made_both.result _ _
    (λ made told.
    let more = made_holds c.with_made.result made.0 _ told.0 c.with_made.ensures in
    let one = more.0 in
    let text = made_holds c.named-point.result one (λ p. string_bytes p.0 ≡ literal) more.1 c.named-point.ensures.text in
    let tree = made_holds c.named-point.result one _ more.1 c.named-point.ensures.made in
    let same : Truth c.args.equal ≡ one.1 = cc in
    ap points_view (more.2 ∙ ap (λ ps. ps ++ one ∷ []) c.new.ensures.items)
    ∙ ap (λ key. branch key (tree_view one.1) done) text
    ∙ ap (λ t. branch literal t done) (sym (ap tree_view same) ∙ view_truth c.args.equal))
    c.made_both.ensures

pub returns-clause-other : goal.returns-clause-other
returns-clause-other c = IfOk-weaker c.made_both.result _ _ (λ made told. made_holds c.truth_alone.result made.1 _ told.1 c.truth_alone.ensures) c.made_both.ensures
