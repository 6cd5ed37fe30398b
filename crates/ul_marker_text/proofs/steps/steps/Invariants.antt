use Rattle.std.proofs.Common.{◌≡◌, ◌≤◌, ◌-◌, ◌++◌, map, drop, length}
use Rattle.ul_marker_text.specs.Rows.{steps_of}
use Rattle.ul_marker_text.specs.StepViews.{row_view, step_view}
use Rattle.ul_marker_text.proofs.steps.steps.Given as goal

abbrev pub invariant-loop-turn : goal.invariant-loop-turn
invariant-loop-turn l = record {
  within : l.at ≤ length l.row;
  steps : map step_view l.found.items ++ steps_of (length l.row - l.turn) (row_view (drop l.at l.row)) ≡ steps_of (length l.row) (row_view l.row);
}
