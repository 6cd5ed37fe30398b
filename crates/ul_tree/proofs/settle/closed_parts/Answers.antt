use Rattle.std.proofs.Common.{◌≡◌, ap, sym, ◌∙◌, subst}
use Rattle.std.proofs.lemmas.Result.{IfOk-weaker}
use Rattle.ul_nodes.specs.Apply.{close, reduced_branches}
use Rattle.ul_nodes.specs.Keys.{level_view}
use Rattle.ul_nodes.specs.Plain.{Plain}
use Rattle.ul_nodes.specs.Reduced.{IsReduced}
use Rattle.ul_nodes.specs.Rows.{made_view, parts_view}
use Rattle.ul_tree.specs.SimplifyViews.{reduced_tree}
use Rattle.ul_tree.specs.Views.{tree_view}
use Rattle.ul_base.proofs.ForCallers.{made_holds}
use Rattle.ul_tree.proofs.settle.closed_parts.Goals as goal
use Rattle.ul_tree.proofs.settle.closed_parts.Goals.{In_ok-other}

-- what is closed is the level of these parts
closed_is : (c : In_ok-other) → close (level_view c.args.level) (tree_view c.in_ok-other.other) (made_view tree_view c.in_ok-other.made.items) ≡ reduced_tree c.args.level c.args.parts.items c.args.other
closed_is c =
    let l = level_view c.args.level in
    let d = tree_view c.args.other in
    let ps = parts_view tree_view c.args.parts.items in
    let both = c.in_ok-other.ensures in
    ap (λ z. close l (tree_view z) (made_view tree_view c.in_ok-other.made.items)) both.0
    ∙ ap (close l d) (made_holds c.reduced_branches-made.result c.in_ok-other.made _ both.1 c.reduced_branches-made.ensures.branches)
    ∙ ap (λ m. close l d (reduced_branches m ps d)) c.is_carried.ensures

pub closed-requires-clause-kinds : goal.closed-requires-clause-kinds
closed-requires-clause-kinds c =
    made_holds c.reduced_branches-made.result c.in_ok-other.made _ c.in_ok-other.ensures.1 c.reduced_branches-made.ensures.kinds (level_view c.args.level) c.requires.kinds

pub closed-requires-clause-reduced : goal.closed-requires-clause-reduced
closed-requires-clause-reduced c = subst (λ (z : Plain). IsReduced z) (sym (closed_is (goal.at.closed-requires-clause-reduced c).In_ok-other)) c.requires.reduced

pub returns : goal.returns
returns c = IfOk-weaker c.closed.result _ _ (λ t is. is ∙ closed_is (goal.at.returns c).In_ok-other) c.closed.ensures
