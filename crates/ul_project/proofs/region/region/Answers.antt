use Rattle.std.proofs.Common.{sym, ◌∙◌}
use Rattle.std.proofs.lemmas.Result.{IfOk-weaker}
use Rattle.ul_base.proofs.ForCallers.{made_holds}
use Rattle.ul_project.proofs.Regions.{region_of_both, region_of_python}
use Rattle.ul_project.proofs.region.region.Goals as goal

pub returns-then-is_empty : goal.returns-then-is_empty
returns-then-is_empty c =
    region_of_python c.args.python.now c.args.environments.now c.in_ok-python.python (sym c.is_empty.ensures ∙ c.if-is_empty.true) c.in_ok-python.ensures.reduced c.in_ok-python.ensures.truth

pub returns : goal.returns
returns c =
    IfOk-weaker c.made_from.result _ _
    (λ tree made.
    region_of_both c.args.python.now c.args.environments.now c.in_ok-python-2.python c.in_ok-python-2.some tree (sym c.is_empty.ensures ∙ c.if-is_empty.false)
    (made_holds c.plain_and-region.result tree _ made c.plain_and-region.ensures.reduced) (rw c.in_ok-python-2.ensures.0 c.in_ok-python.ensures.truth)
    (rw c.in_ok-python-2.ensures.1 at c.some_environment.ensures.truth) (made_holds c.plain_and-region.result tree _ made c.plain_and-region.ensures.truth))
    c.made_from.ensures
