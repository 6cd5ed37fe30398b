use Rattle.std.proofs.Common.{ap, ◌∙◌, sym, subst}
use Rattle.std.proofs.lemmas.Result.{IfOk-weaker}
use Rattle.ul_nodes.specs.Plain.{Plain}
use Rattle.ul_nodes.specs.Reduced.{IsReduced}
use Rattle.ul_tree.specs.Values.{tree_holds}
use Rattle.ul_tree.specs.Views.{tree_view}
use Rattle.ul_tree.specs.Sample.{asks_extra}
use Rattle.ul_tree.proofs.JoinedTrees.{operations}
use Rattle.ul_tree.proofs.TreeTruths.{no_extra}
use Rattle.ul_tree.proofs.operations.plain_at_extra.Goals as goal

pub returns-clause-reduced : goal.returns-clause-reduced
returns-clause-reduced c =
    IfOk-weaker c.copy.result _ _ (λ tree is. subst (λ (z : Plain). IsReduced z) (sym (is ∙ c.part_at.ensures.part)) (operations.extra_reduced (tree_view c.args.whole.now) c.args.extra.now c.requires)) c.copy.ensures

pub returns-clause-truth : goal.returns-clause-truth
returns-clause-truth c =
    IfOk-weaker c.copy.result _ _ (λ tree is w y. ap (λ t. tree_holds t w y) (is ∙ c.part_at.ensures.part) ∙ operations.extra_truth (tree_view c.args.whole.now) c.args.extra.now c.requires w y) c.copy.ensures

pub returns-clause-no_extra : goal.returns-clause-no_extra
returns-clause-no_extra c =
    IfOk-weaker c.copy.result _ _ (λ tree is. ap asks_extra (is ∙ c.part_at.ensures.part) ∙ no_extra.at_extra (tree_view c.args.whole.now) c.args.extra.now c.requires) c.copy.ensures
