use Rattle.std.proofs.lemmas.Result.{IfOk-weaker}
use Rattle.ul_base.proofs.ForCallers.{made_holds}
use Rattle.ul_tree.proofs.simplify.union_from.Goals as goal

pub returns : goal.returns
returns c = IfOk-weaker c.made_from.result _ _ (λ t made. made_holds c.union.result t _ made c.union.ensures) c.made_from.ensures
