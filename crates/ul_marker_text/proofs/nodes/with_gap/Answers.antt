use Rattle.std.proofs.Common.{ap, ◌∙◌}
use Rattle.std.proofs.lemmas.Result.{IfOk-weaker}
use Rattle.ul_tree.proofs.ForCallers.{view_truth}
use Rattle.ul_marker_text.specs.Nodes.{number_branches}
use Rattle.ul_marker_text.proofs.PartFacts.{gap_closed, gap_none}
use Rattle.ul_marker_text.proofs.nodes.with_gap.Goals as goal

pub returns-then-next-start : goal.returns-then-next-start
returns-then-next-start c = gap_none c.args.made.items c.args.next c.args.start c.if-next-start.true

pub returns : goal.returns
returns c =
    let same = gap_closed c.args.made.items c.args.next c.args.start _ c.if-next-start.false (view_truth _) in
    IfOk-weaker c.with_one.result _ _ (λ all is. ap number_branches is ∙ same) c.with_one.ensures
