use Rattle.std.proofs.Common.{◌≡◌, map, length}
use Rattle.ul_tree.specs.Fans.{same_keys}
use Rattle.ul_marker_text.specs.StepViews.{comparison_key}
use Rattle.ul_marker_text.proofs.steps.same_keys.Given as goal

abbrev pub invariant-loop-left : goal.invariant-loop-left
invariant-loop-left l = same_keys (map comparison_key l.left) (map comparison_key l.right) ≡ same_keys (map comparison_key l.row) (map comparison_key l.other)

abbrev pub decreases-loop-left : goal.decreases-loop-left
decreases-loop-left l = length l.left
