use Rattle.std.proofs.Common.{◌≡◌, ◌+◌, drop}
use Rattle.ul_marker_text.specs.Nodes.{front_count}
use Rattle.ul_marker_text.specs.StepViews.{paths_from, step_view}
use Rattle.ul_marker_text.proofs.building.group_len.Given as goal

abbrev pub invariant-loop-index : goal.invariant-loop-index
invariant-loop-index l = l.index + front_count (step_view l.step) (paths_from l.place (drop l.index l.paths)) ≡ front_count (step_view l.step) (paths_from l.place l.paths)
