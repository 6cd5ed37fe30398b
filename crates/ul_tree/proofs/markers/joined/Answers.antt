use Rattle.std.proofs.Common.{◌≡◌, ap, ◌∙◌, arith, length}
use Rattle.std.proofs.lemmas.Result.{IfOk-weaker}
use Rattle.ul_base.proofs.ForCallers.{made_holds}
use Rattle.ul_tree.specs.Joining.{joint, truths_of}
use Rattle.ul_tree.proofs.Joint.{all_last}
use Rattle.ul_tree.proofs.markers.joined.Goals as goal

pub returns-clause-reduced : goal.returns-clause-reduced
returns-clause-reduced c = IfOk-weaker c.made_from.result _ _ (λ tree made. made_holds c.joined_last.result tree _ made c.joined_last.ensures.reduced) c.made_from.ensures

pub returns-clause-truth : goal.returns-clause-truth
returns-clause-truth c =
    let trees = c.args.trees in
    let count : c.len-count.result ≡ length trees.items = omega (arith, c.len-count.ensures, trees.ok) in
    IfOk-weaker c.made_from.result _ _
    (λ tree made w x. made_holds c.joined_last.result tree _ made c.joined_last.ensures.truth w x ∙ ap (λ ts. joint c.args.all (truths_of ts w x)) (all_last c.len-count.result trees.items count))
    c.made_from.ensures
