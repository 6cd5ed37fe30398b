use Rattle.std.proofs.Common.{sym, subst}
use Rattle.ul_nodes.specs.Apply.{both, either}
use Rattle.ul_tree.specs.JoinSteps.{JoinsTo}
use Rattle.ul_tree.specs.Joins.{truth_of, at_once_view}
use Rattle.ul_nodes.specs.Plain.{Plain, truth}
use Rattle.ul_tree.specs.Views.{tree_view}
use Rattle.ul_tree.specs.declared.join.Join.{Join}
use Rattle.ul_tree.proofs.Shortcuts.{both_joins, either_joins}
use Rattle.ul_tree.proofs.join.before_truth.Goals as goal

pub returns-in-Both : goal.returns-in-Both
returns-in-Both c =
    let a = tree_view c.args.left.now in
    let x = truth c.args.value in
    subst (λ (o : Join). JoinsTo (truth_of o) a x (at_once_view c.past_truth.result)) (sym c.in-Both.is) (subst (λ (z : Plain). JoinsTo both a x z) (sym c.past_truth.ensures) (both_joins c.args.value a c.requires))

pub returns-in-Either : goal.returns-in-Either
returns-in-Either c =
    let a = tree_view c.args.left.now in
    let x = truth c.args.value in
    subst (λ (o : Join). JoinsTo (truth_of o) a x (at_once_view c.past_truth-in-Either.result)) (sym c.in-Either.is)
    (subst (λ (z : Plain). JoinsTo either a x z) (sym c.past_truth-in-Either.ensures) (either_joins c.args.value a c.requires))
