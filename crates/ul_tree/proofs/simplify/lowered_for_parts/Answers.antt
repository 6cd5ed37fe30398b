use Rattle.std.proofs.Common.{sym, ◌∙◌}
use Rattle.std.proofs.lemmas.Result.{IfOk-weaker}
use Rattle.ul_nodes.specs.Keys.{level_view}
use Rattle.ul_tree.specs.SimplifyViews.{region_view}
use Rattle.ul_tree.specs.Views.{tree_view}
use Rattle.ul_tree.proofs.PartRegions.{lowered_stands}
use Rattle.ul_tree.proofs.simplify.lowered_for_parts.Goals as goal

pub returns-in-Some : goal.returns-in-Some
returns-in-Some c =
    let r = tree_view c.args.region.now in
    IfOk-weaker c.lowered.result _ _
    (λ made is.
    lowered_stands (level_view c.args.level) (level_view c.in-Some.first) (tree_view c.args.whole.now) r (region_view tree_view made r) c.requires.top c.requires.whole_reduced
    (sym c.is_at.ensures ∙ c.if-is_at.false) c.requires.not_false (sym c.in-Some.ensures) is)
    c.lowered.ensures
