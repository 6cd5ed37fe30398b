use Rattle.std.proofs.Common.{◌≡◌, ◌+◌, ◌≤◌, length, map}
use Rattle.ul_lines.specs.Lines.{lines_of}
use Rattle.ul_marker.specs.Views.{marker_view}
use Rattle.ul_canonical.specs.Lines.{formulas_from, formulas_of}
use Rattle.ul_canonical.proofs.Said.{behind}
use Rattle.ul_canonical.proofs.lines.markers_of.Given as goal

abbrev pub invariant-loop-rest : goal.invariant-loop-rest
invariant-loop-rest l = record {
  reads : behind (map marker_view l.markers.items) (formulas_from l.number (lines_of l.rest)) ≡ formulas_of l.bytes;
  room : l.number + length l.rest ≤ length l.bytes + 1;
}

abbrev pub decreases-loop-rest : goal.decreases-loop-rest
decreases-loop-rest l = length l.rest
