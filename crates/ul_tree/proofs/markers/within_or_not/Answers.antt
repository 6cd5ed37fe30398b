use Rattle.std.proofs.Common.{ap, sym, ◌∙◌}
use Rattle.std.proofs.lemmas.Result.{IfOk-weaker}
use Rattle.ul_comparison.specs.Truth.{as_asked}
use Rattle.ul_tree.specs.Values.{tree_holds}
use Rattle.ul_tree.specs.Views.{tree_view}
use Rattle.ul_base.proofs.ForCallers.{made_holds}
use Rattle.ul_tree.proofs.markers.within_or_not.Goals as goal

pub returns-then-within-clause-truth : goal.returns-then-within-clause-truth
returns-then-within-clause-truth c w x = ap (λ b. as_asked b (tree_holds (tree_view c.args.tree) w x)) (sym c.if-within.true)

pub returns-clause-truth : goal.returns-clause-truth
returns-clause-truth c =
    IfOk-weaker c.made_from.result _ _
    (λ tree made w x. made_holds c.plain_not.result tree _ made c.plain_not.ensures.truth w x ∙ ap (λ b. as_asked b (tree_holds (tree_view c.args.tree) w x)) (sym c.if-within.false))
    c.made_from.ensures

pub returns-clause-reduced : goal.returns-clause-reduced
returns-clause-reduced c = IfOk-weaker c.made_from.result _ _ (λ tree made. made_holds c.plain_not.result tree _ made c.plain_not.ensures.reduced) c.made_from.ensures
