use Rattle.std.proofs.Common.{◌-◌, ◌/◌, [], ◌∷◌, List, ap, sym, ◌∙◌, subst, length, arith, drop, length-take}
use Rattle.std.specs.List.{All}
use Rattle.std.proofs.lemmas.List.Elements.{All-take}
use Rattle.std.proofs.lemmas.Result.{IfOk-weaker}
use Rattle.ul_tree.specs.Joining.{joint, truths_of}
use Rattle.ul_nodes.specs.Reduced.{IsReduced}
use Rattle.ul_tree.specs.Values.{tree_holds}
use Rattle.ul_tree.specs.Views.{tree_view}
use Rattle.ul_tree.specs.declared.tree.Tree.{Tree}
use Rattle.ul_tree.specs.TreeFacts.{IsTree}
use Rattle.ul_base.proofs.ForCallers.{made_holds}
use Rattle.ul_tree.proofs.Joint.{last_truths}
use Rattle.ul_tree.proofs.markers.+joined_last.Goals as goal

pub joined_last-requires : goal.joined_last-requires
joined_last-requires t c =
    let d = c.decreases in
    (omega (arith, d, c.requires.some, c.if-count-eq1.false), (omega (arith, c.requires.some, c.if-count-eq1.false), (omega (arith, c.requires.within), c.requires.reduced)))

pub joined_last-requires-2 : goal.joined_last-requires-2
joined_last-requires-2 t c =
    let d = c.decreases in
    let xs = c.args.trees.now.items in
    let half = c.args.count / 2 in
    let left = c.in_ok-last.ensures.left in
    let n = ap (length {A = Tree}) left ∙ length-take (length xs - half) xs in (
      omega (arith, d, c.requires.some, c.if-count-eq1.false),
      (
        omega (arith, c.requires.some),
        (
          omega (arith, n, c.requires.within),
          subst (λ (zs : List Tree). All (λ t. IsReduced (tree_view t)) zs) (sym left) (All-take (λ t. IsReduced (tree_view t)) (length xs - half) xs c.requires.reduced),
        ),
      ),
    )

pub returns-clause-truth : goal.returns-clause-truth
returns-clause-truth t c =
    IfOk-weaker c.pair.result _ _
    (λ tree truth w x.
    let all = c.args.all in
    let xs = c.args.trees.now.items in
    let half = c.args.count / 2 in
    let left = c.joined_last.new.trees.items in
    let back = c.in_ok-back.back in
    let both = c.in_ok-back.ensures in
    let told = made_holds c.joined_last-2.result c.in_ok-back.front _ both.1 c.joined_last-2.ensures.truth in
    truth w x
    ∙ ap (λ b. joint all (b ∷ tree_holds (tree_view back) w x ∷ [])) (told w x)
    ∙ ap (λ b. joint all (joint all (truths_of (drop (length left - (c.args.count - half)) left) w x) ∷ b ∷ [])) (ap (λ z. tree_holds (tree_view z) w x) both.0 ∙ c.in_ok-last.ensures.truth w x)
    ∙ last_truths all xs left c.args.count half w x (omega arith) c.requires.within c.in_ok-last.ensures.left)
    c.pair.ensures.truth

pub pair-requires-clause-front_reduced : goal.pair-requires-clause-front_reduced
pair-requires-clause-front_reduced t c = made_holds c.joined_last-2.result c.in_ok-back.front _ c.in_ok-back.ensures.1 c.joined_last-2.ensures.reduced

pub pair-requires-clause-back_reduced : goal.pair-requires-clause-back_reduced
pair-requires-clause-back_reduced t c = subst IsTree (sym c.in_ok-back.ensures.0) c.in_ok-last.ensures.reduced

pub returns-clause-reduced : goal.returns-clause-reduced
returns-clause-reduced t c = c.pair.ensures.reduced
