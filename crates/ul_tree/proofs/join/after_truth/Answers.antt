use Rattle.std.proofs.Common.{sym, subst}
use Rattle.ul_nodes.specs.Apply.{both, either}
use Rattle.ul_tree.specs.JoinSteps.{JoinsTo}
use Rattle.ul_tree.specs.Joins.{truth_of, at_once_view}
use Rattle.ul_nodes.specs.Plain.{Plain, truth}
use Rattle.ul_tree.specs.Views.{tree_view}
use Rattle.ul_tree.specs.declared.join.Join.{Join}
use Rattle.ul_tree.proofs.Shortcuts.{joins_both, joins_either}
use Rattle.ul_tree.proofs.join.after_truth.Goals as goal

pub returns-in-Both : goal.returns-in-Both
returns-in-Both c =
    let b = tree_view c.args.right.now in
    let x = truth c.args.value in
    subst (λ (o : Join). JoinsTo (truth_of o) x b (at_once_view c.past_truth.result)) (sym c.in-Both.is) (subst (λ (z : Plain). JoinsTo both x b z) (sym c.past_truth.ensures) (joins_both c.args.value b c.requires))

pub returns-in-Either : goal.returns-in-Either
returns-in-Either c =
    let b = tree_view c.args.right.now in
    let x = truth c.args.value in
    subst (λ (o : Join). JoinsTo (truth_of o) x b (at_once_view c.past_truth-in-Either.result)) (sym c.in-Either.is)
    (subst (λ (z : Plain). JoinsTo either x b z) (sym c.past_truth-in-Either.ensures) (joins_either c.args.value b c.requires))
