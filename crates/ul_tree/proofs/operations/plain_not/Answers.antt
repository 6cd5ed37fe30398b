use Rattle.std.proofs.Common.{suc, ◌+◌, ap, ◌∙◌, arith, sym, subst, not, false}
use Rattle.std.proofs.lemmas.Result.{IfOk-weaker}
use Rattle.ul_nodes.specs.Plain.{Plain}
use Rattle.ul_nodes.specs.Reduced.{IsReduced}
use Rattle.ul_nodes.specs.Apply.{size}
use Rattle.ul_tree.specs.Values.{tree_holds}
use Rattle.ul_tree.specs.Views.{tree_view}
use Rattle.ul_tree.specs.declared.tree.Tree.{Truth}
use Rattle.ul_tree.proofs.JoinedTrees.{operations}
use Rattle.ul_tree.proofs.Shapes.{view_truth}
use Rattle.ul_tree.proofs.operations.plain_not.Goals as goal

pub returns-clause-truth : goal.returns-clause-truth
returns-clause-truth c =
    let a = tree_view c.args.whole.now in
    let b = tree_view (Truth false) in
    IfOk-weaker c.joined.result _ _
    (λ tree is w x. ap (λ t. tree_holds t w x) (is (suc (size a + size b)) (omega arith)) ∙ operations.join_truth (λ x y. not x) a b c.requires (subst (λ (z : Plain). IsReduced z) (sym (view_truth false)) tt) w x)
    c.joined.ensures.joined
