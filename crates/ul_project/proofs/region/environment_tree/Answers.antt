use Rattle.std.proofs.Common.{◌∙◌, []}
use Rattle.std.proofs.lemmas.Result.{IfOk-weaker}
use Rattle.ul_base.proofs.ForCallers.{made_holds}
use Rattle.ul_project.proofs.region.environment_tree.Goals as goal

pub returns-clause-reduced : goal.returns-clause-reduced
returns-clause-reduced c = IfOk-weaker c.made_from.result _ _ (λ tree made. made_holds c.plain_at_extra.result tree _ made c.plain_at_extra.ensures.reduced) c.made_from.ensures

pub returns-clause-truth : goal.returns-clause-truth
returns-clause-truth c =
    IfOk-weaker c.made_from.result _ _
    (λ tree made w x is. made_holds c.plain_at_extra.result tree _ made c.plain_at_extra.ensures.truth w x ∙ c.in_ok-marked.ensures.truth w [] is)
    c.made_from.ensures
