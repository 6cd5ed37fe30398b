use Rattle.std.proofs.Common.{◌∷◌, [], ap, sym, ◌∙◌, if◌then◌else◌}
use Rattle.std.proofs.lemmas.Result.{IfOk-weaker}
use Rattle.ul_base.proofs.ForCallers.{made_holds}
use Rattle.ul_nodes.specs.Apply.{same_bool}
use Rattle.ul_tree.specs.Joining.{joint}
use Rattle.ul_tree.specs.Values.{tree_holds}
use Rattle.ul_tree.specs.Views.{tree_view}
use Rattle.ul_tree.proofs.Joint.{settled_first, settled_second}
use Rattle.ul_tree.proofs.Shortcuts.{truth_is}
use Rattle.ul_tree.proofs.markers.pair.Goals as goal

pub returns-in-Some-clause-truth : goal.returns-in-Some-clause-truth
returns-in-Some-clause-truth c = λ w x.
    let all = c.args.all in
    let value = c.in-Some.value in
    let front = tree_view c.args.front in
    let back = tree_view c.args.back in
    let is = truth_is front value c.in-Some.ensures in
    ap (λ t. tree_holds t w x) (c.past_neutral.ensures ∙ ap (λ t. if same_bool value all then back else t) (sym is))
    ∙ settled_first all value back w x
    ∙ ap (λ t. joint all (tree_holds t w x ∷ tree_holds back w x ∷ [])) is

pub returns-in-Some-truth_value-clause-truth : goal.returns-in-Some-truth_value-clause-truth
returns-in-Some-truth_value-clause-truth c = λ w x.
    let all = c.args.all in
    let value = c.in-Some-truth_value.value in
    let front = tree_view c.args.front in
    let back = tree_view c.args.back in
    let is = truth_is back value c.in-Some-truth_value.ensures in
    ap (λ t. tree_holds t w x) (c.past_neutral-in-Some-truth_value.ensures ∙ ap (λ t. if same_bool value all then front else t) (sym is))
    ∙ settled_second all value front w x
    ∙ ap (λ t. joint all (tree_holds front w x ∷ tree_holds t w x ∷ [])) is

pub returns-clause-reduced : goal.returns-clause-reduced
returns-clause-reduced c = IfOk-weaker c.made_from.result _ _ (λ tree made. made_holds c.both_or_either.result tree _ made c.both_or_either.ensures.reduced) c.made_from.ensures

pub returns-clause-truth : goal.returns-clause-truth
returns-clause-truth c = IfOk-weaker c.made_from.result _ _ (λ tree made. made_holds c.both_or_either.result tree _ made c.both_or_either.ensures.truth) c.made_from.ensures
