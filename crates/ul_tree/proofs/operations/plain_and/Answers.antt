use Rattle.std.proofs.Common.{suc, ◌+◌, ap, ◌∙◌, arith}
use Rattle.std.proofs.lemmas.Result.{IfOk-weaker}
use Rattle.ul_nodes.specs.Apply.{size, both}
use Rattle.ul_tree.specs.Values.{tree_holds}
use Rattle.ul_tree.specs.Views.{tree_view}
use Rattle.ul_tree.proofs.JoinedTrees.{operations}
use Rattle.ul_tree.proofs.operations.plain_and.Goals as goal

pub returns-clause-truth : goal.returns-clause-truth
returns-clause-truth c =
    let a = tree_view c.args.left.now in
    let b = tree_view c.args.right.now in
    IfOk-weaker c.joined.result _ _
    (λ tree is w x. ap (λ t. tree_holds t w x) (is (suc (size a + size b)) (omega arith)) ∙ operations.join_truth both a b c.requires.left_reduced c.requires.right_reduced w x)
    c.joined.ensures.joined
