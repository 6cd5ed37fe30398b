use Rattle.std.proofs.Common.{◌≡◌, take}
use Rattle.ul_marker_text.specs.StepViews.{paths_view, rows_steps}
use Rattle.ul_marker_text.specs.TextFacts.{AreWithin}
use Rattle.ul_marker_text.proofs.texts.paths_of_rows.Given as goal

abbrev pub invariant-loop-row : goal.invariant-loop-row
invariant-loop-row l = record {
  paths : paths_view l.found.items ≡ rows_steps (take l.row-index l.rows);
  within : AreWithin 512 (paths_view l.found.items);
}
