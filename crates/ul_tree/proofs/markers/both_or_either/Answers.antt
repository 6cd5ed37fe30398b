use Rattle.std.proofs.Common.{ap, sym, ◌∙◌, [], ◌∷◌}
use Rattle.std.proofs.lemmas.Result.{IfOk-weaker}
use Rattle.ul_tree.specs.Joining.{joint}
use Rattle.ul_tree.specs.Values.{tree_holds}
use Rattle.ul_tree.specs.Views.{tree_view}
use Rattle.ul_tree.proofs.Joint.{joint_and, joint_or}
use Rattle.ul_tree.proofs.markers.both_or_either.Goals as goal

pub returns-then-all-clause-truth : goal.returns-then-all-clause-truth
returns-then-all-clause-truth c =
    IfOk-weaker c.plain_and.result _ _
    (λ tree truth w x.
    let a = tree_holds (tree_view c.args.front.now) w x in
    let b = tree_holds (tree_view c.args.back.now) w x in
    truth w x ∙ joint_and a b ∙ ap (λ v. joint v (a ∷ b ∷ [])) (sym c.if-all.true))
    c.plain_and.ensures.truth

pub returns-clause-truth : goal.returns-clause-truth
returns-clause-truth c =
    IfOk-weaker c.plain_or.result _ _
    (λ tree truth w x.
    let a = tree_holds (tree_view c.args.front.now) w x in
    let b = tree_holds (tree_view c.args.back.now) w x in
    truth w x ∙ joint_or a b ∙ ap (λ v. joint v (a ∷ b ∷ [])) (sym c.if-all.false))
    c.plain_or.ensures.truth
