use Rattle.std.proofs.Common.{ap, ◌∙◌, map, drop, ◌+◌}
use Rattle.ul_tree.specs.Fans.{filled_points}
use Rattle.ul_nodes.specs.Keys.{then_branches}
use Rattle.ul_marker_text.specs.Nodes.{key_branches, parts_view}
use Rattle.ul_marker_text.specs.StepViews.{comparison_key}
use Rattle.ul_marker_text.proofs.PartFacts.{filled_more, filled_end}
use Rattle.ul_marker_text.proofs.nodes.filled.Goals as goal

pub loop-key-preserved : goal.loop-key-preserved
loop-key-preserved c = record {
  made = ap (λ z. then_branches (key_branches z) (filled_points (map comparison_key (drop (c.loop-key.key-index + 1) c.args.row.now)) (parts_view c.take_point-in-loop-key.new.parts.items))) c.in_ok-made-2.ensures
      ∙ filled_more c.loop-key.made.items c.key-item.result c.take_point-in-loop-key.result c.args.row.now c.loop-key.key-index c.key-item.result (parts_view c.loop-key.parts.items) _ _ c.loop-key-test.true c.key-item.is
      (c.take_point-in-loop-key.ensures.branch _) c.loop-key.invariant.made;
  other = c.take_point-in-loop-key.ensures.other ∙ c.loop-key.invariant.other;
}

pub returns-clause-branches : goal.returns-clause-branches
returns-clause-branches c = filled_end c.loop-key.made.items c.args.row.now c.loop-key.key-index (parts_view c.loop-key.parts.items) _ c.loop-key-test.false c.loop-key.invariant.made
