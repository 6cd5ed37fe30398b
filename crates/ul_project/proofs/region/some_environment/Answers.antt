use Rattle.std.proofs.Common.{◌∙◌, ap, false}
use Rattle.std.proofs.lemmas.Result.{IfOk-weaker}
use Rattle.ul_tree.specs.Joining.{joint}
use Rattle.ul_project.proofs.Regions.{any_holds}
use Rattle.ul_project.proofs.region.some_environment.Goals as goal

pub returns-clause-truth : goal.returns-clause-truth
returns-clause-truth c =
    IfOk-weaker c.joined.result _ _
    (λ tree holds w x is. holds w x ∙ ap (joint false) (c.in_ok-trees.ensures.truth w x is) ∙ any_holds c.args.environments.now w)
    c.joined.ensures.truth
