use Rattle.std.proofs.Common.{subst}
use Rattle.ul_nodes.specs.Plain.{Plain}
use Rattle.ul_nodes.specs.Rows.{IfSome}
use Rattle.ul_tree.specs.JoinSteps.{JoinsTo}
use Rattle.ul_tree.specs.Joins.{truth_of, at_once_view}
use Rattle.ul_tree.specs.Views.{tree_view}
use Rattle.ul_tree.proofs.Shortcuts.{truth_is}
use Rattle.ul_tree.proofs.join.at_once.Goals as goal

pub returns-in-Some : goal.returns-in-Some
returns-in-Some c =
    subst (λ (z : Plain). JoinsTo (truth_of c.args.operation) z (tree_view c.args.right.now) (at_once_view c.after_truth.result)) (truth_is (tree_view c.args.left.now) c.in-Some.value c.in-Some.ensures) c.after_truth.ensures

pub returns-in-Some-truth_value : goal.returns-in-Some-truth_value
returns-in-Some-truth_value c =
    subst (λ (z : Plain). IfSome (λ k. JoinsTo (truth_of c.args.operation) (tree_view c.args.left.now) z (at_once_view k)) c.before_truth.result)
    (truth_is (tree_view c.args.right.now) c.in-Some-truth_value.value c.in-Some-truth_value.ensures) c.before_truth.ensures
